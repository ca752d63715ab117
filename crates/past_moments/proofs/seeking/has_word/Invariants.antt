use Rattle.std.proofs.Common.{◌≡◌, drop}
use Rattle.past_moments.specs.Seeking.{has_word}
use Rattle.past_moments.proofs.seeking.has_word.Given as goal

-- from no cell on so far
abbrev pub invariant-loop-x : goal.invariant-loop-x
invariant-loop-x l = has_word l.row l.word ≡ has_word (drop l.x l.row) l.word
