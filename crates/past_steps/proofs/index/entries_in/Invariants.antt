use Rattle.std.proofs.Common.{◌-◌, Ok}
use Rattle.desk_journal.specs.Looking.{OnlyLooks}
use Rattle.past_steps.proofs.index.entries_in.Given as goal

-- the store was only read
abbrev pub invariant-loop-at : goal.invariant-loop-at
invariant-loop-at g l = OnlyLooks {T = Unit {0}} g.D.Disk (Ok tt) l.fn.store l.store

abbrev pub decreases-loop-at : goal.decreases-loop-at
decreases-loop-at g l = l.end - l.at
