use Rattle.std.proofs.Common.{◌≤◌, Ok, length}
use Rattle.desk_journal.specs.Looking.{OnlyLooks}
use Rattle.past_steps.proofs.steps.add_before.Given as goal

-- the store was only read, and no more were found than are asked for
abbrev pub invariant-loop-count : goal.invariant-loop-count
invariant-loop-count g l = record {
  few : length l.found.items ≤ l.most;
  looks : OnlyLooks {T = Unit {0}} g.D.Disk (Ok tt) l.fn.store l.store;
}
