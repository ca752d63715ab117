use Rattle.std.proofs.Common.{All, drop, map}
use Rattle.std.specs.List.{flat_map}
use Rattle.std.specs.Map.{keys_of}
use Rattle.desktop_definitions.specs.Limits.{newest_version}
use Rattle.image_format.specs.Image.{viewers_bytes, viewer_bytes, picture_of, InWord}
use Rattle.image_format.proofs.Putting.{IsLeft}
use Rattle.desktop_image.proofs.imaging.put_viewers.Given as goal

-- the viewers so far were put
abbrev pub invariant-loop-place : goal.invariant-loop-place
invariant-loop-place g l = record {
  ids : All InWord (keys_of (drop l.place l.viewers)) → All InWord (keys_of l.viewers);
  left : IsLeft g.K.ByteSink (viewers_bytes newest_version (map (picture_of l.caret l.selections) l.viewers))
      (flat_map (viewer_bytes newest_version) (map (picture_of l.caret l.selections) (drop l.place l.viewers))) l.fn.sink l.sink;
}
