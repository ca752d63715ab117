use Rattle.std.proofs.Common.{◌≡◌, drop}
use Rattle.desktop_image.specs.Images.{first_some, selected_at}
use Rattle.desktop_image.proofs.drafts.selected_as.Given as goal

-- no viewer so far has that rank
abbrev pub invariant-loop-picture : goal.invariant-loop-picture
invariant-loop-picture l =
    first_some (selected_at l.rank) (drop l.picture-index l.pictures) ≡ first_some (selected_at l.rank) l.pictures
