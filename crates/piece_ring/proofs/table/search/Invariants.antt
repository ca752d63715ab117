use Rattle.std.proofs.Common.{ℕ, ◌≡◌, ◌+◌, ◌-◌, ◌<◌, ◌≤◌, length, Some, slice_get}
use Rattle.piece_ring.specs.declared.table.Mark.{Mark}
use Rattle.piece_ring.proofs.table.search.Given as goal

-- the marks before `low` are at the position or before it, and that of index `high` is past it
abbrev pub invariant-loop-low : goal.invariant-loop-low
invariant-loop-low l = record {
  order : l.low ≤ l.high;
  within : l.high ≤ length l.marks.items;
  before : (k : ℕ) (m : Mark) → slice_get l.marks.items k ≡ Some m → k + 1 ≡ l.low → m.pos ≤ l.pos;
  past : (m : Mark) → slice_get l.marks.items l.high ≡ Some m → l.pos < m.pos;
}

abbrev pub decreases-loop-low : goal.decreases-loop-low
decreases-loop-low l = l.high - l.low
