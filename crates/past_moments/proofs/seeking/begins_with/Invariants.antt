use Rattle.std.proofs.Common.{◌≡◌, drop}
use Rattle.past_moments.specs.Seeking.{begins_with}
use Rattle.past_moments.proofs.seeking.begins_with.Given as goal

-- so far they are the same
abbrev pub invariant-loop-i : goal.invariant-loop-i
invariant-loop-i l = begins_with l.cells l.word ≡ begins_with (drop l.i l.cells) (drop l.i l.word)
