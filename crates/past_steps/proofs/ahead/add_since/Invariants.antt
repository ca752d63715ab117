use Rattle.std.proofs.Common.{Ok}
use Rattle.desk_journal.specs.Looking.{OnlyLooks}
use Rattle.past_steps.proofs.ahead.add_since.Given as goal

-- the store was only read
abbrev pub invariant-loop-count : goal.invariant-loop-count
invariant-loop-count g l = OnlyLooks {T = Unit {0}} g.D.Disk (Ok tt) l.fn.store l.store
