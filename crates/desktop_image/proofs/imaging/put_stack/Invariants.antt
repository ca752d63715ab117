use Rattle.std.proofs.Common.{drop}
use Rattle.std.specs.Prelude.{reverse}
use Rattle.std.specs.List.{flat_map}
use Rattle.desktop_definitions.specs.Limits.{newest_version}
use Rattle.viewer_tracks.specs.Columns.{stack_of}
use Rattle.image_format.specs.Image.{stack_bytes, track_bytes}
use Rattle.image_format.proofs.Putting.{IsLeft}
use Rattle.desktop_image.proofs.imaging.put_stack.Given as goal

-- the tracks so far were put
abbrev pub invariant-loop-below : goal.invariant-loop-below
invariant-loop-below g l =
    IsLeft g.K.ByteSink (stack_bytes newest_version (reverse (stack_of l.tracks l.track)))
    (flat_map (track_bytes newest_version) (drop l.below (reverse (stack_of l.tracks l.track)))) l.fn.sink l.sink
