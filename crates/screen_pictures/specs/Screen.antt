-- The screen: the list of its rows from the bottom up, each the list of its cells from the left.
use Rattle.std.specs.Prelude.{ℕ, List, [], map}
use Rattle.std.specs.List.{slice_index_or, range_with_len}
use Rattle.viewer_tracks.specs.declared.display.TheConstants.{ROWS, COLUMNS}
use Rattle.screen_pictures.specs.declared.cell.Cell.{Cell}
use Rattle.screen_pictures.specs.Picture.{filler}

-- the row y, and the cell at column x of a row
abbrev pub row_at : List (List Cell) → ℕ → List Cell
row_at screen y = slice_index_or screen y []

abbrev pub column_at : List Cell → ℕ → Cell
column_at row x = slice_index_or row x filler

-- the cell at column x and row y
abbrev pub cell_at : List (List Cell) → ℕ → ℕ → Cell
cell_at screen x y = column_at (row_at screen y) x

-- the n values that f has from 0 on
unfoldable pub values : {A : Type 0} → ℕ → (ℕ → A) → List A
values n f = map f (range_with_len 0 n)

-- the screen whose cell at column x and row y is f x y
abbrev pub screen_of : (ℕ → ℕ → Cell) → List (List Cell)
screen_of f = values ROWS (λ y. values COLUMNS (λ x. f x y))
