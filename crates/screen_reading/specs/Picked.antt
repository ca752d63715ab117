-- The word that a double click picks.
use Rattle.std.specs.Prelude.{ℕ, ◌-◌, Bool, ◌&&◌, nat_lt, if◌then◌else◌, List, Option, Some, None, slice_get}
use Rattle.viewer_tracks.specs.declared.display.TheConstants.{COLUMNS}
use Rattle.screen_pictures.specs.declared.cell.Cell.{Cell}
use Rattle.screen_pictures.specs.Screen.{column_at}
use Rattle.screen_reading.specs.declared.along.Kind.TheVariants.{Name, Period, Text}
use Rattle.screen_reading.specs.Along.{begin_of, is_of}
use Rattle.screen_reading.specs.Called.{begin_in_track, end_in_track}

-- whether a byte of a name stands in a text there
abbrev pub is_in_word : Cell → Bool
is_in_word cell = is_of Text cell && is_of Name cell

-- the column behind the word around column x: periods at its end end a sentence, and are none of it
abbrev pub picked_end : List Cell → ℕ → ℕ
picked_end row x = begin_of Period row (end_in_track row x)

-- the first and the last column of that word, where column x is one of its
abbrev pub picked_in : List Cell → ℕ → Option (ℕ × ℕ)
picked_in row x = if is_in_word (column_at row x) && nat_lt x (picked_end row x)
    then Some (begin_in_track row x, picked_end row x - 1) else None

abbrev pub picked_of : Option (List Cell) → ℕ → Option (ℕ × ℕ)
picked_of None x = None
picked_of (Some row) x = picked_in row x

-- of the word of a text that is seen at column x and row y
unfoldable pub picked_word : List (List Cell) → ℕ × ℕ → Option (ℕ × ℕ)
picked_word screen at =
    if nat_lt at.0 COLUMNS then picked_of (slice_get screen at.1) at.0 else None
