use Rattle.std.proofs.Common.{◌≡◌, ◌≤◌, ◌+◌, ◌==◌, length, count_by}
use Rattle.char_file.proofs.counting.count.Given as goal

abbrev pub invariant-loop-left : goal.invariant-loop-left
invariant-loop-left l = record {
  so_far : l.found + count_by (λ b. b == l.fn.wanted) l.left ≡ count_by (λ b. b == l.fn.wanted) l.fn.bytes;
  few : l.found + length l.left ≤ length l.fn.bytes;
}

abbrev pub decreases-loop-left : goal.decreases-loop-left
decreases-loop-left l = length l.left
