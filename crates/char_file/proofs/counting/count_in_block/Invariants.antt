use Rattle.std.proofs.Common.{◌≡◌, ◌≤◌, ◌==◌, take, count_by}
use Rattle.char_file.proofs.counting.count_in_block.Given as goal

abbrev pub invariant-loop-byte : goal.invariant-loop-byte
invariant-loop-byte l = record {
  so_far : l.found ≡ count_by (λ b. b == l.fn.wanted) (take l.byte-index l.fn.block);
  few : l.found ≤ l.byte-index;
}
