-- What is known while the rows of a frame are read one after another.
use Rattle.std.specs.Prelude.{◌≡◌, ◌+◌, ◌-◌, ◌*◌, ◌<◌, ◌≤◌, ℕ, List, length, Some, slice_get}
use Rattle.event_bytes.specs.Bytes.{carriage_return}
use Rattle.piece_ring.specs.Text.{Text}
use Rattle.readers_scanners.specs.Reading.{bytes_of_text, Reading}
use Rattle.text_frames.specs.Cells.{row_of, column_of}
use Rattle.text_frames.specs.Lines.{ends_between}

-- A reader of the text from org on stands in this row and column, and no character from row `next` on is passed.
pub record IsReadTo (honest : Type 0) (characters : List ℕ) (text : Text ℕ) (org next : ℕ)
    (reader : Reading)
    (row column : ℕ) : Type 0 where
  pub same : reader.text ≡ text
  pub from : org ≤ reader.position
  pub within : reader.position ≤ length text
  -- the row and the column are small, whatever the source told
  pub few : row ≤ reader.position
  pub short : column ≤ (reader.position - org) * 4
  pub high : row ≤ next
  -- and where it is honest they are those of the position
  pub in_row : honest → row ≡ row_of (bytes_of_text characters text) org reader.position
  pub in_column : honest → column ≡ column_of (bytes_of_text characters text) org reader.position
  pub passed : honest → (p : ℕ) → org ≤ p → p < reader.position
      → row_of (bytes_of_text characters text) org p < next

-- A row begins at p that is so many rows below that of `from`: as many lines end between, the last of them right
-- before.
pub record IsRowBelow (bs : List ℕ) (from rows p : ℕ) : Type 0 where
  pub below : ends_between bs from p ≡ rows
  pub behind : slice_get bs (p - 1) ≡ Some carriage_return

-- A position of a text of so many characters on the way to the row that is so many rows below `from`: that row is more
-- than none below it.
pub record IsNearer (long from rows p more : ℕ) : Type 0 where
  pub low : from ≤ p
  pub within : p ≤ long
  pub some : 0 < more
  pub few : from + rows ≤ p + more

-- the row and the column of a position
pub record IsPlaceInRows (bs : List ℕ) (org p row column : ℕ) : Type 0 where
  pub in_row : row ≡ row_of bs org p
  pub in_column : column ≡ column_of bs org p

-- A place on the way to a row of a text of so many characters, at the beginning of that row or of one above it.
pub record IsOnWay (org long row p r column : ℕ) : Type 0 where
  pub from : org ≤ p
  pub within : p ≤ long
  pub few : r ≤ p
  pub above : r ≤ row
  pub first : column ≡ 0
