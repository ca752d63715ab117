-- The cell whose word a click of the middle button calls.
use Rattle.std.specs.Prelude.{ℕ, ◌+◌, ◌-◌, ◌==◌, if◌then◌else◌, Option, Some, None}
use Rattle.viewer_tracks.specs.declared.tracks.Place.{Place}
use Rattle.desktop_definitions.specs.Gesture.{clamped}
use Rattle.screen_reading.specs.Frames.{left_at, track_end}

-- the nearest column to x of the menu of a viewer that stands there, which has all columns of the track, and of its text,
-- right of its bar
abbrev pub nearest_in_menu : Place → ℕ → ℕ
nearest_in_menu place x = clamped (left_at place.x) (track_end place.x - 1) x

abbrev pub nearest_in_text : Place → ℕ → ℕ
nearest_in_text place x = clamped (left_at place.x + 1) (track_end place.x - 1) x

-- The button went down in a viewer that stands there, and up at another cell: the nearest one to that of the menu, or of
-- the text, in which it went down. In the scroll bar there is none.
unfoldable pub called_here : Place → ℕ × ℕ → ℕ × ℕ → Option (ℕ × ℕ)
called_here place from to =
    if from.1 == place.top - 1 then Some (nearest_in_menu place to.0, from.1) else
    (if from.0 == left_at place.x then None
    else Some (nearest_in_text place to.0, clamped place.bottom (place.top - 2) to.1))

-- and where none stands there is none either
unfoldable pub called_cell : Option Place → ℕ × ℕ → ℕ × ℕ → Option (ℕ × ℕ)
called_cell None from to = None
called_cell (Some place) from to = called_here place from to
