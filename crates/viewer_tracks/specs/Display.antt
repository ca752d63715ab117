-- The display: 80 columns of characters by 32 rows, the user track on its left and the system track on its right.
use Rattle.std.specs.Prelude.{ℕ, nat_lt, if◌then◌else◌}
use Rattle.viewer_tracks.specs.declared.display.Track.{Track}
use Rattle.viewer_tracks.specs.declared.display.Track.TheVariants.{User, System}
use Rattle.viewer_tracks.specs.declared.display.TheConstants.{SYSTEM_LEFT}

-- the track that has the column x of characters
abbrev pub track_at : ℕ → Track
track_at x = if nat_lt x SYSTEM_LEFT then User else System

-- its leftmost column of characters
abbrev pub left_of : Track → ℕ
left_of User = 0
left_of System = SYSTEM_LEFT
