use Rattle.std.proofs.Common.{take}
use Rattle.desk_journal.specs.Undoing.{IsBehind}
use Rattle.desk_journal.proofs.undone.post_each.Given as goal

-- the events so far were posted
abbrev pub invariant-loop-event : goal.invariant-loop-event
invariant-loop-event g l = record {
  behind : IsBehind g.D.Disk (take l.event-index l.events) l.fn.store l.store;
}
