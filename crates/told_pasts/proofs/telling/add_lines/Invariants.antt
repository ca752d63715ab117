use Rattle.std.proofs.Common.{take}
use Rattle.desk_past.specs.Deeds.{all_posted}
use Rattle.told_pasts.specs.Telling.{IsToldOn}
use Rattle.told_pasts.proofs.telling.add_lines.Given as goal

-- the events so far were told
abbrev pub invariant-loop-event : goal.invariant-loop-event
invariant-loop-event g l = record {
  told : IsToldOn g.E.Disk (all_posted (take l.event-index l.events)) l.fn.lines.items l.lines.items l.fn.shown l.shown;
}
