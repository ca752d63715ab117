use Rattle.std.proofs.Common.{◌≡◌, drop}
use Rattle.desktop_image.specs.Images.{first_some, picture_caret}
use Rattle.desktop_image.proofs.drafts.caret_of.Given as goal

-- no viewer so far has it
abbrev pub invariant-loop-picture : goal.invariant-loop-picture
invariant-loop-picture l = first_some picture_caret (drop l.picture-index l.pictures) ≡ first_some picture_caret l.pictures
