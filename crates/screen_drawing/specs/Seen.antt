-- What a terminal shows of a row of cells: so many of them from a column on, and beside them nothing.
use Rattle.std.specs.Prelude.{ℕ, ◌+◌, false, nat_lt, if◌then◌else◌, List, unwrap_or, slice_get}
use Rattle.piece_ring.specs.Look.{default_look}
use Rattle.screen_pictures.specs.declared.cell.Cell.{Cell}
use Rattle.screen_pictures.specs.declared.cell.Mark.TheVariants.{Text as InText}
use Rattle.screen_pictures.specs.Bytes.{space}
use Rattle.screen_pictures.specs.Screen.{column_at, values}
use Rattle.screen_drawing.specs.declared.face.Face.{Face}
use Rattle.screen_drawing.specs.declared.pen.TheConstants.{WHITE}
use Rattle.screen_drawing.specs.Pen.{blank_face, face_of}

-- at a column of the terminal, where so many columns from `left` on are in sight
abbrev pub face_seen : ℕ → ℕ → List Cell → ℕ → Face
face_seen left columns cells x =
    if nat_lt x columns then face_of (left + x) (column_at cells (left + x)) else blank_face WHITE

-- in a terminal that is so wide
abbrev pub cells_seen : ℕ → ℕ → ℕ → List Cell → List Face
cells_seen left columns width cells = values width (face_seen left columns cells)

-- the cell that shows the byte of a text at a column, or a space where the text has none
abbrev pub letter_cell : List ℕ → ℕ → Cell
letter_cell text x = record {
  ch = unwrap_or (slice_get text x) space;
  look = default_look;
  mark = InText;
  goes_on = false;
}
