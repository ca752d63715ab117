use Rattle.std.proofs.Common.{◌≡◌}
use Rattle.desktop_definitions.specs.Effects.{found_at}
use Rattle.sought_words.proofs.places.found_at.Given as goal

-- the words are at no place that was passed
abbrev pub invariant-loop-place : goal.invariant-loop-place
invariant-loop-place l = found_at l.bytes l.words l.from ≡ found_at l.bytes l.words l.place
