use Rattle.std.proofs.Common.{◌≡◌, ◌+◌, drop}
use Rattle.image_format.specs.Image.{ranked_in}
use Rattle.desktop_image.proofs.imaging.ranked_in.Given as goal

-- no selection so far is of that viewer
abbrev pub invariant-loop-place : goal.invariant-loop-place
invariant-loop-place l = ranked_in 1 l.selections l.id ≡ ranked_in (l.place + 1) (drop l.place l.selections) l.id
