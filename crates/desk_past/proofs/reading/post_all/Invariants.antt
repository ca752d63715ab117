use Rattle.std.proofs.Common.{◌≡◌, false, take}
use Rattle.desk_journal.specs.Undoing.{IsLedOn}
use Rattle.desk_past.proofs.reading.post_all.Given as goal

-- the events so far were posted
abbrev pub invariant-loop-event : goal.invariant-loop-event
invariant-loop-event g l = record {
  usable : l.fn.shown.must_reopen ≡ false → l.shown.must_reopen ≡ false;
  led : IsLedOn g.E.Disk (take l.event-index l.events) l.fn.shown l.shown;
}
