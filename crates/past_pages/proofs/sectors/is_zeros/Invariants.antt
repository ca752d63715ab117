use Rattle.std.proofs.Common.{◌≡◌, take, true}
use Rattle.std.specs.Prelude.{replicate}
use Rattle.past_pages.proofs.sectors.is_zeros.Given as goal

-- the bytes so far are zeros, if it says so
abbrev pub invariant-loop-byte : goal.invariant-loop-byte
invariant-loop-byte l = l.zeros ≡ true → take l.byte-index l.sector ≡ replicate l.byte-index 0
