-- Viewers of a track with their heights, as they are handed out.
use Rattle.std.specs.Prelude.{ℕ}
use Rattle.viewer_tracks.specs.declared.viewer_id.ViewerId.{ViewerId}
use Rattle.viewer_tracks.specs.Viewers.{Entry}

-- a viewer that has so many rows
abbrev pub as_entry : ViewerId × ℕ → Entry
as_entry e = record { viewer = e.0.0; height = e.1 }
