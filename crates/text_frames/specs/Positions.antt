-- What stands at a cell of a text that is shown from `org` on, in words of its own.
use Rattle.std.specs.Prelude.{ℕ, ◌≡◌, ◌↔◌, ◌⊎◌, ◌+◌, ◌<◌, ◌≤◌, IsTrue, List, length, slice_get, slice_index}
use Rattle.text_frames.specs.Lines.{ends_line}
use Rattle.text_frames.specs.Cells.{row_of, column_of, position_at}
use Rattle.text_frames.specs.Row.{cells_taken}

-- The character at p is in that row, and the column is one of its cells.
pub record HoldsCell (bs : List ℕ) (org column row p : ℕ) : Type 0 where
  pub within : p < length bs
  pub in_row : row_of bs org p ≡ row
  pub begins : column_of bs org p ≤ column
  pub ends : column < column_of bs org p + cells_taken (column_of bs org p) (slice_index bs p)

-- The line in that row ends at p, with a carriage return or with the text, and its last character before the column.
pub record EndsBefore (bs : List ℕ) (org column row p : ℕ) : Type 0 where
  pub end : (p ≡ length bs) ⊎ IsTrue (ends_line (slice_get bs p))
  pub in_row : row_of bs org p ≡ row
  pub before : column_of bs org p ≤ column

-- There is no line in that row: the text ends in one above it, at p.
pub record HasNoLine (bs : List ℕ) (org row p : ℕ) : Type 0 where
  pub last : row_of bs org (length bs) < row
  pub end : p ≡ length bs

-- p stands at the cell of that column and row
abbrev pub IsAtCell : List ℕ → ℕ → ℕ → ℕ → ℕ → Type 0
IsAtCell bs org column row p = HoldsCell bs org column row p
    ⊎ (EndsBefore bs org column row p ⊎ HasNoLine bs org row p)

-- the position at a cell is the one from org on that stands there
abbrev pub PositionsAreAtCells : Type 0
PositionsAreAtCells = (bs : List ℕ) (org column row p : ℕ) → org ≤ length bs
    → (p ≡ position_at bs org column row) ↔ ((org ≤ p) × IsAtCell bs org column row p)
