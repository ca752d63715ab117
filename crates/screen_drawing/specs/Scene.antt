-- What a terminal is to show: the part of a screen that is in sight, and a line of text below it.
use Rattle.std.specs.Prelude.{◌≡◌, ℕ, ◌+◌, ◌-◌, ◌<◌, ◌≤◌, ◌&&◌, nat_lt, if◌then◌else◌, List, [], Option, Some, None}
use Rattle.std.specs.Prelude.{slice_get, unwrap_or}
use denote.Bor.{Bor}
use Rattle.viewer_tracks.specs.declared.display.TheConstants.{COLUMNS, ROWS}
use Rattle.screen_pictures.specs.declared.cell.Mark.TheVariants.{Caret}
use Rattle.screen_pictures.specs.declared.cell.Cell.{Cell}
use Rattle.screen_pictures.specs.Bytes.{space}
use Rattle.screen_pictures.specs.Screen.{column_at, row_at, values}
use Rattle.screen_drawing.specs.declared.face.Face.{Face}
use Rattle.screen_drawing.specs.declared.scene.Scene.{Scene}
use Rattle.screen_drawing.specs.declared.pen.TheConstants.{WHITE}
use Rattle.screen_drawing.specs.Pen.{face_of, plain_pen, sent_byte}
use Rattle.screen_drawing.specs.Seen.{cells_seen, face_seen}

-- the rows in sight are rows of the screen, the columns are columns of it, and they fit into the terminal
pub record IsInSight (scene : Scene) : Type 0 where
  pub high : scene.first + scene.rows ≤ ROWS
  pub wide : scene.left + scene.columns ≤ COLUMNS
  pub fits : scene.columns ≤ scene.width
  pub most : scene.width ≤ COLUMNS

-- the text of the line below, and how many rows it takes
abbrev pub text_below : Option (Bor (List ℕ)) → List ℕ
text_below None = []
text_below (Some text) = text.now

abbrev pub line_height : Option (Bor (List ℕ)) → ℕ
line_height None = 0
line_height (Some text) = 1

abbrev pub height_of : Scene → ℕ
height_of scene = scene.rows + line_height scene.below

-- the row of the screen that is in sight in this row from the top
abbrev pub seen_row : Scene → ℕ → List Cell
seen_row scene y = row_at scene.screen.now (ROWS - 1 - scene.first - y)

-- what a terminal shows for a text at a column
abbrev pub letter_face : List ℕ → ℕ → Face
letter_face text x = record {
  byte = sent_byte (unwrap_or (slice_get text x) space);
  pen = plain_pen WHITE;
}

-- a whole row of cells as a terminal shows it
abbrev pub row_of_cells : List Cell → List Face
row_of_cells cells = values COLUMNS (λ x. face_of x (column_at cells x))

-- what a terminal shows of a row of cells at a column: those in sight, and beside them nothing
abbrev pub seen_face : Scene → List Cell → ℕ → Face
seen_face scene cells = face_seen scene.left scene.columns cells

-- a row of cells, and a text, as far as a terminal shows them
abbrev pub seen_cells : Scene → List Cell → List Face
seen_cells scene cells = cells_seen scene.left scene.columns scene.width cells

abbrev pub seen_letters : Scene → List ℕ → List Face
seen_letters scene text = values scene.width (letter_face text)

-- its rows, from the top
unfoldable pub scene_row : Scene → ℕ → List Face
scene_row scene y =
    if nat_lt y scene.rows then seen_cells scene (seen_row scene y)
    else seen_letters scene (text_below scene.below)

unfoldable pub scene_rows : Scene → List (List Face)
scene_rows scene = values (height_of scene) (scene_row scene)

-- a cell in sight at which a caret stands, by its column and row of the terminal, or none where there is none
abbrev pub HasCaretAt : Scene → ℕ → ℕ → Type 0
HasCaretAt scene x y = (column_at (seen_row scene y) (scene.left + x)).mark ≡ Caret

abbrev pub IsCaretCell : Scene → Option (ℕ × ℕ) → Type 0
IsCaretCell scene None = (x y : ℕ) → x < scene.columns → y < scene.rows → HasCaretAt scene x y → ⊥
IsCaretCell scene (Some place) = (place.0 < scene.columns) × (place.1 < scene.rows)
    × HasCaretAt scene place.0 place.1

-- the pointer that keys move, where that is in sight
unfoldable pub pointer_in : ℕ → ℕ → Option (ℕ × ℕ) → Option (ℕ × ℕ)
pointer_in columns rows None = None
pointer_in columns rows (Some at) =
    if nat_lt at.0 columns && nat_lt at.1 rows then Some at else None

abbrev pub seen_pointer : Scene → Option (ℕ × ℕ)
seen_pointer scene = pointer_in scene.columns scene.rows scene.pointer

-- a cell in sight at which the cursor is to be seen: that of the pointer, or else one at which a caret stands
abbrev pub IsCursorBy : Option (ℕ × ℕ) → Scene → Option (ℕ × ℕ) → Type 0
IsCursorBy None scene place = IsCaretCell scene place
IsCursorBy (Some at) scene place = place ≡ Some at

abbrev pub IsCursorCell : Scene → Option (ℕ × ℕ) → Type 0
IsCursorCell scene place = IsCursorBy (seen_pointer scene) scene place
