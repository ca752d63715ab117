use Rattle.std.proofs.Common.{◌≤◌, List, reverse, subst, sym}
use Rattle.arrayvec.specs.ArrayVec.{ArrayVec}
use Rattle.viewer_tracks.specs.Columns.{IsStack}
use Rattle.image_format.specs.declared.picture.Stretch.{Stretch}
use Rattle.image_format.specs.Pictures.{pictured, stack_of_stretches}
use Rattle.desktop_image.specs.Images.{times_tracked}
use Rattle.desktop_image.proofs.ImageMade.{user_stack, system_stack, once_tracked}
use Rattle.desktop_image.proofs.images.desk_of.Goals as goal

pub tracks_of-tracks-requires-clause-user : goal.tracks_of-tracks-requires-clause-user
tracks_of-tracks-requires-clause-user c =
    subst (λ (ss : List (ArrayVec Stretch)). IsStack (reverse (stack_of_stretches ss))) (sym c.as_slice.ensures.value)
    (user_stack c.requires.fits.0 c.args.written (pictured c.args.picture) c.requires.fits.1)

pub tracks_of-tracks-requires-clause-system : goal.tracks_of-tracks-requires-clause-system
tracks_of-tracks-requires-clause-system c =
    subst (λ (ss : List (ArrayVec Stretch)). IsStack (reverse (stack_of_stretches ss))) (sym c.as_slice-2.ensures.value)
    (system_stack c.requires.fits.0 c.args.written (pictured c.args.picture) c.requires.fits.1)

pub tracks_of-tracks-requires-clause-once : goal.tracks_of-tracks-requires-clause-once
tracks_of-tracks-requires-clause-once c = λ v.
    subst (λ (ss : List (ArrayVec Stretch)). times_tracked (stack_of_stretches ss) (stack_of_stretches c.as_slice-2.result.now) v ≤ 1)
    (sym c.as_slice.ensures.value)
    (subst (λ (ss : List (ArrayVec Stretch)). times_tracked (stack_of_stretches c.args.picture.user.items) (stack_of_stretches ss) v ≤ 1)
    (sym c.as_slice-2.ensures.value)
    (once_tracked c.args.written (pictured c.args.picture) c.requires.makes v))
