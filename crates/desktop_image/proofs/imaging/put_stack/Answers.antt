use Rattle.std.proofs.Common.{◌+◌, arith, drop}
use Rattle.std.specs.Prelude.{reverse}
use Rattle.std.proofs.lemmas.List.{length-reverse}
use Rattle.desktop_definitions.specs.Limits.{newest_version}
use Rattle.viewer_tracks.specs.Columns.{stack_of, track_on}
use Rattle.image_format.specs.Image.{stack_bytes, track_bytes, depth_bytes}
use Rattle.image_format.proofs.Putting.{number_put, item_put}
use Rattle.desktop_image.proofs.ImageLemmas.{level_from}
use Rattle.desktop_image.proofs.imaging.put_stack.Goals as goal

pub loop-below-init : goal.loop-below-init
loop-below-init g c =
    let stack = stack_of c.args.tracks.now c.args.track in
    let same = length-reverse stack in
    let deep = c.levels-depth.ensures.depth in
    number_put g.K.ByteSink g.met.K.ByteSink.ground_through (depth_bytes newest_version) (track_bytes newest_version)
    (reverse stack) c.levels-depth.result (omega (arith, same, deep)) c.in_ok-put_byte.ensures

pub loop-below-preserved : goal.loop-below-preserved
loop-below-preserved g c =
    let stack = stack_of c.args.tracks.now c.args.track in
    let below = c.loop-below.below in
    let low = c.loop-below-test.true in
    let deep = c.levels-depth.ensures.depth in
    item_put g.K.ByteSink g.met.K.ByteSink.ground_through (track_bytes newest_version)
    (stack_bytes newest_version (reverse stack)) (drop below (reverse stack)) (track_on stack (below + 1))
    (drop (below + 1) (reverse stack)) (level_from stack below (omega (arith, low, deep))) c.loop-below.invariant
    c.in_ok-put_track.ensures
