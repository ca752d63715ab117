use Rattle.std.proofs.Common.{◌≡◌}
use Rattle.sought_words.specs.Places.{found_before}
use Rattle.sought_words.proofs.places.found_before.Given as goal

-- the words are at no place that was passed
abbrev pub invariant-loop-place : goal.invariant-loop-place
invariant-loop-place l = found_before l.bytes l.words l.end ≡ found_before l.bytes l.words l.place
