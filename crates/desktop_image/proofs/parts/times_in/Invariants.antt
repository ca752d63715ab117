use Rattle.std.proofs.Common.{◌≡◌, ◌==◌, take}
use Rattle.std.specs.List.{count_by}
use Rattle.desktop_image.proofs.parts.times_in.Given as goal

-- how often so far
abbrev pub invariant-loop-stretch : goal.invariant-loop-stretch
invariant-loop-stretch l = l.times ≡ count_by (λ s. s.viewer == l.id) (take l.stretch-index l.stretches)
