use Rattle.std.proofs.Common.{◌≡◌, ◌+◌, drop, length, map}
use Rattle.std.specs.List.{flat_map}
use Rattle.desktop_definitions.specs.Limits.{newest_version}
use Rattle.image_format.specs.Image.{viewers_bytes, picture_of, viewer_bytes}
use Rattle.desktop_image.proofs.image_size.viewers_len.Given as goal

-- what was counted and what is to come
abbrev pub invariant-loop-place : goal.invariant-loop-place
invariant-loop-place l =
    let seen = picture_of l.caret l.selections in
    l.sum + length (flat_map (viewer_bytes newest_version) (map seen (drop l.place l.viewers)))
    ≡ length (viewers_bytes newest_version (map seen l.viewers))
