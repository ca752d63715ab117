-- Where the text of a viewer is seen.
use Rattle.std.specs.Prelude.{ℕ, ◌+◌, ◌-◌, nat_lt, if◌then◌else◌, Option, Some, None, max, min}
use Rattle.viewer_tracks.specs.declared.display.TheConstants.{COLUMNS, SYSTEM_LEFT}
use Rattle.viewer_tracks.specs.Display.{left_of, track_at}
use Rattle.viewer_tracks.specs.declared.tracks.Place.{Place}
use Rattle.terminal_presses.specs.Sights.{Sight}

-- the first column of the track that has column x, and the one behind its last
abbrev pub left_at : ℕ → ℕ
left_at x = left_of (track_at x)

abbrev pub track_end : ℕ → ℕ
track_end x = if nat_lt x SYSTEM_LEFT then SYSTEM_LEFT else COLUMNS

-- the first cell of the text of a viewer that stands there, where it has a row of text: right of its bar, and below its
-- menu
unfoldable pub text_start : Place → Option (ℕ × ℕ)
text_start place = if nat_lt place.bottom (place.top - 1)
    then Some (left_at place.x + 1, place.top - 2) else None

-- how many rows of the text of a viewer are in sight, of no viewer none
unfoldable pub text_rows_in_sight : Sight → Option Place → ℕ
text_rows_in_sight sight None = 0
text_rows_in_sight sight (Some place) =
    min (place.top - 1) (sight.top + 1) - max place.bottom (sight.top + 1 - sight.rows)
