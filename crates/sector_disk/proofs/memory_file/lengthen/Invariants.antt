use Rattle.std.proofs.Common.{◌≡◌, ◌-◌, ℕ, length, get_or}
use Rattle.sector_disk.proofs.memory_file.lengthen.Given as goal

abbrev pub invariant-loop-bytes : goal.invariant-loop-bytes
invariant-loop-bytes l = (i : ℕ) → get_or l.bytes.items i 0 ≡ get_or l.fn.bytes.items i 0

abbrev pub decreases-loop-bytes : goal.decreases-loop-bytes
decreases-loop-bytes l = l.size - length l.bytes.items
