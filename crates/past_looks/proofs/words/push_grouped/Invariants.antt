use Rattle.std.proofs.Common.{◌≡◌, ◌++◌}
use Rattle.past_looks.specs.Words.{grouped_front}
use Rattle.past_looks.proofs.words.push_grouped.Given as goal

-- the digits so far
abbrev pub invariant-loop-i : goal.invariant-loop-i
invariant-loop-i l = l.line.items ≡ l.fn.line.items ++ grouped_front l.digits l.i
