use Rattle.std.proofs.Common.{◌≡◌, ◌++◌, take}
use Rattle.told_pasts.specs.Words.{quoted}
use Rattle.told_pasts.proofs.words.push_quoted.Given as goal

abbrev pub invariant-loop-byte : goal.invariant-loop-byte
invariant-loop-byte l = l.line.items ≡ l.fn.line.items ++ quoted (take l.byte-index l.bytes)
