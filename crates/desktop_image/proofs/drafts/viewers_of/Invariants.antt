use Rattle.std.proofs.Common.{◌≡◌, map, take}
use Rattle.desktop_image.specs.Images.{picture_entry}
use Rattle.desktop_image.proofs.drafts.viewers_of.Given as goal

-- the viewers so far
abbrev pub invariant-loop-picture : goal.invariant-loop-picture
invariant-loop-picture l = l.viewers.items ≡ map picture_entry (take l.picture-index l.pictures)
