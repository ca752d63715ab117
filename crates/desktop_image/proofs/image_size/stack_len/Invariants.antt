use Rattle.std.proofs.Common.{◌≡◌, ◌+◌, ◌*◌, ◌≤◌, drop, length}
use Rattle.std.specs.Prelude.{reverse}
use Rattle.std.specs.List.{flat_map}
use Rattle.desktop_definitions.specs.Limits.{newest_version}
use Rattle.viewer_tracks.specs.Columns.{stack_of}
use Rattle.image_format.specs.Image.{stack_bytes, track_bytes}
use Rattle.desktop_image.proofs.image_size.stack_len.Given as goal

-- what was counted and what is to come
abbrev pub invariant-loop-below : goal.invariant-loop-below
invariant-loop-below l = record {
  counted : l.sum
      + length (flat_map (track_bytes newest_version) (drop l.below (reverse (stack_of l.tracks l.track))))
      ≡ length (stack_bytes newest_version (reverse (stack_of l.tracks l.track)));
  few : l.sum ≤ 1 + 766 * l.below;
}
