-- The word that is seen at a cell, and the one behind it.
use Rattle.std.specs.Prelude.{ℕ, ◌+◌, ◌-◌, max, min, nat_le, nat_lt, if◌then◌else◌, List, [], map, take, drop, Option}
use Rattle.std.specs.Prelude.{Some, None}
use Rattle.std.specs.Prelude.{slice_get}
use Rattle.viewer_tracks.specs.declared.display.TheConstants.{COLUMNS, SYSTEM_LEFT}
use Rattle.screen_pictures.specs.declared.cell.Cell.{Cell}
use Rattle.screen_reading.specs.declared.along.Kind.TheVariants.{Blank, Name}
use Rattle.screen_reading.specs.declared.called.TheConstants.{MOST_WORD}
use Rattle.screen_reading.specs.Along.{begin_of, end_of, last_of}

-- the cells from one column up to another
abbrev pub cells_between : List Cell → ℕ → ℕ → List Cell
cells_between row begin end = take (end - begin) (drop begin row)

-- their bytes
abbrev pub bytes_seen : List Cell → List ℕ
bytes_seen cells = map (λ cell. cell.ch) cells

-- the word from one column up to another, as far as it is kept
abbrev pub word_between : List Cell → ℕ → ℕ → List ℕ
word_between row begin end = bytes_seen (cells_between row begin (min end (begin + MOST_WORD)))

-- in the track of column x: the first column of the word around it, or of the one that ends right before it, and the
-- column behind the word that stands from there on
abbrev pub begin_in_track : List Cell → ℕ → ℕ
begin_in_track row x =
    if nat_lt x SYSTEM_LEFT then begin_of Name row x else max (begin_of Name row x) SYSTEM_LEFT

abbrev pub end_in_track : List Cell → ℕ → ℕ
end_in_track row x =
    if nat_lt x SYSTEM_LEFT then min (end_of Name row x) SYSTEM_LEFT else end_of Name row x

-- the word around a column of a row, or the one that ends right before it
abbrev pub row_word : List Cell → ℕ → List ℕ
row_word row x = word_between row (begin_in_track row x) (end_in_track row x)

abbrev pub word_in : Option (List Cell) → ℕ → List ℕ
word_in None x = []
word_in (Some row) x = row_word row x

-- the word at column x and row y; no byte where there is none
unfoldable pub called_word : List (List Cell) → ℕ → ℕ → List ℕ
called_word screen x y = if nat_lt x COLUMNS then word_in (slice_get screen y) x else []

-- the word that begins at a column of a row, whatever stands before it
abbrev pub row_word_from : List Cell → ℕ → List ℕ
row_word_from row x = word_between row x (end_in_track row x)

abbrev pub word_from_in : Option (List Cell) → ℕ → List ℕ
word_from_in None x = []
word_from_in (Some row) x = row_word_from row x

-- the word that begins at column x and row y; no byte where none does
unfoldable pub word_from : List (List Cell) → ℕ → ℕ → List ℕ
word_from screen x y = if nat_lt x COLUMNS then word_from_in (slice_get screen y) x else []

-- where what stands behind the word around a column begins
abbrev pub begin_behind : List Cell → ℕ → ℕ
begin_behind row x = end_of Blank row (end_in_track row x)

-- the word behind it, in the same row of a text
unfoldable pub word_behind : List Cell → ℕ → List ℕ
word_behind row x =
    if nat_le (begin_behind row x) (last_of row x)
    then word_between row (begin_behind row x) (end_in_track row (begin_behind row x)) else []

abbrev pub behind_in : Option (List Cell) → ℕ → List ℕ
behind_in None x = []
behind_in (Some row) x = word_behind row x

-- what is seen as the first parameter of the word at column x and row y; no byte where no word is
unfoldable pub parameter_word : List (List Cell) → ℕ → ℕ → List ℕ
parameter_word screen x y = if nat_lt x COLUMNS then behind_in (slice_get screen y) x else []
