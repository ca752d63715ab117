use Rattle.std.proofs.Common.{List, arith}
use Rattle.std.proofs.lemmas.List.{length-map}
use Rattle.viewer_tracks.specs.Viewers.{Entry}
use Rattle.image_format.specs.Pictures.{track_of_stretches}
use Rattle.desktop_image.proofs.Building.{level_is}
use Rattle.desktop_image.proofs.drafts.on_level.Goals as goal

pub returns-clause-viewers : goal.returns-clause-viewers
returns-clause-viewers c = level_is c.args.stack.now c.args.level c.index-stack-level.result c.as_slice.result.now
    c.requires c.index-stack-level.is c.as_slice.ensures.value

pub returns-clause-within : goal.returns-clause-within
returns-clause-within c =
    let same = length-map {B = List Entry} c.args.stack.now track_of_stretches in
    let low = c.requires in
    omega (arith, same, low)
