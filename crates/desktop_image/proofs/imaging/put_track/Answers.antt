use Rattle.std.proofs.Common.{◌+◌, drop}
use Rattle.desktop_definitions.specs.Limits.{newest_version}
use Rattle.viewer_tracks.specs.Columns.{stack_of, track_on}
use Rattle.viewer_tracks.specs.Heights.{as_entry}
use Rattle.image_format.specs.Image.{track_bytes, entry_bytes}
use Rattle.image_format.proofs.Putting.{item_put}
use Rattle.desktop_image.proofs.ImageLemmas.{from_there}
use Rattle.desktop_image.proofs.imaging.put_track.Goals as goal

pub loop-index-preserved : goal.loop-index-preserved
loop-index-preserved g c =
    let track = track_on (stack_of c.args.tracks.now c.args.track) c.args.level in
    let index = c.loop-index.index in
    let entry = as_entry c.entry_in-height.result in
    item_put g.K.ByteSink g.met.K.ByteSink.ground_through (entry_bytes newest_version) (track_bytes newest_version track)
    (drop index track) entry (drop (index + 1) track) (from_there track index entry c.entry_in-height.ensures.entry)
    c.loop-index.invariant c.in_ok-put_entry.ensures
