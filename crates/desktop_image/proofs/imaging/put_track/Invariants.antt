use Rattle.std.proofs.Common.{drop}
use Rattle.std.specs.List.{flat_map}
use Rattle.desktop_definitions.specs.Limits.{newest_version}
use Rattle.viewer_tracks.specs.Columns.{stack_of, track_on}
use Rattle.image_format.specs.Image.{track_bytes, entry_bytes}
use Rattle.image_format.proofs.Putting.{IsLeft}
use Rattle.desktop_image.proofs.imaging.put_track.Given as goal

-- the viewers so far were put
abbrev pub invariant-loop-index : goal.invariant-loop-index
invariant-loop-index g l =
    IsLeft g.K.ByteSink (track_bytes newest_version (track_on (stack_of l.tracks l.track) l.level))
    (flat_map (entry_bytes newest_version) (drop l.index (track_on (stack_of l.tracks l.track) l.level))) l.fn.sink l.sink
