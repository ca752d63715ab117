-- A screen as a drawing, in SVG: a cell is 9 units wide and 19 high, and x and y are those of its upper left corner.
--
-- Each row is drawn from the left, stretch by stretch of cells in one pen: the background where it isn't white, and on
-- it the text where there is one. A caret is a bar at the left of its cell.
use Rattle.std.specs.Prelude.{ℕ, ◌+◌, ◌-◌, ◌*◌, Bool, true, false, ◌&&◌, ◌||◌, ◌==◌, not, if◌then◌else◌, List, [], ◌∷◌}
use Rattle.std.specs.Prelude.{◌++◌, codes, take, drop, length}
use Rattle.std.specs.Fmt.{decimal}
use Rattle.std.specs.List.{concat, flat_map, list_all, position_or_len, range_with_len, slice_index_or}
use Rattle.viewer_tracks.specs.declared.display.TheConstants.{ROWS, COLUMNS}
use Rattle.screen_pictures.specs.declared.cell.Cell.{Cell}
use Rattle.screen_pictures.specs.declared.cell.Mark.{Mark}
use Rattle.screen_pictures.specs.declared.cell.Mark.TheVariants.{Marker, Caret, Selected, Menu, Bar, Text, Filler}
use Rattle.screen_pictures.specs.Bytes.{space}
use Rattle.screen_pictures.specs.Screen.{column_at, row_at}
use Rattle.screen_drawing.specs.declared.face.Face.{Face}
use Rattle.screen_drawing.specs.declared.pen.Pen.{Pen}
use Rattle.screen_drawing.specs.declared.pen.Weight.{Weight}
use Rattle.screen_drawing.specs.declared.pen.Weight.TheVariants.{Regular, Bold, Faint}
use Rattle.screen_drawing.specs.declared.pen.Rule.{Rule}
use Rattle.screen_drawing.specs.declared.pen.Rule.TheVariants.{Plain, Under, Over}
use Rattle.screen_drawing.specs.declared.pen.TheConstants.{BLACK, WHITE}
use Rattle.screen_drawing.specs.Scene.{row_of_cells}
use Rattle.screen_drawing.specs.Pen.{blank_face, same_pen}
use Rattle.screen_drawing.specs.Strokes.{baseline, caret_width, cell_height, cell_width, colour_code, escaped_byte}

-- a rectangle in one colour: its corner, width and height in units
abbrev pub rectangle : ℕ → ℕ → ℕ → ℕ → ℕ → List ℕ
rectangle x y width height colour = concat
    (codes "<rect x='" ∷ decimal x ∷ codes "' y='" ∷ decimal y ∷ codes "' width='" ∷ decimal width
    ∷ codes "' height='" ∷ decimal height ∷ codes "' fill='" ∷ colour_code colour ∷ codes "'/>\n"
    ∷ [])

-- cells of a paper from a column on, in a row from the top
abbrev pub paper_cells : ℕ → ℕ → ℕ → ℕ → List ℕ
paper_cells x y columns paper =
    rectangle (cell_width * x) (cell_height * y) (cell_width * columns) cell_height paper

-- what weight, slant and rule of a pen add to a text
abbrev pub weight_text : Weight → List ℕ
weight_text Regular = []
weight_text Bold = codes " font-weight='bold'"
weight_text Faint = codes " fill-opacity='0.55'"

abbrev pub slant_text : Bool → List ℕ
slant_text is_italic = if is_italic then codes " font-style='italic'" else []

abbrev pub rule_text : Rule → List ℕ
rule_text Plain = []
rule_text Under = codes " text-decoration='underline'"
rule_text Over = codes " text-decoration='overline'"

abbrev pub escaped_text : List Face → List ℕ
escaped_text faces = flat_map (λ face. escaped_byte face.byte) faces

-- the characters of cells from a column on, in a row from the top
abbrev pub text_cells : ℕ → ℕ → List Face → Pen → List ℕ
text_cells x y faces pen = concat
    (codes "<text x='" ∷ decimal (cell_width * x) ∷ codes "' y='"
    ∷ decimal (cell_height * y + baseline)
    ∷ codes "' textLength='" ∷ decimal (cell_width * length faces) ∷ codes "' fill='"
    ∷ colour_code pen.ink
    ∷ codes "'" ∷ weight_text pen.weight ∷ slant_text pen.is_italic ∷ rule_text pen.rule
    ∷ codes ">" ∷ escaped_text faces ∷ codes "</text>\n" ∷ [])

-- whether a pen draws a line along its characters
abbrev pub is_ruled : Rule → Bool
is_ruled Plain = false
is_ruled Under = true
is_ruled Over = true

abbrev pub are_spaces : List Face → Bool
are_spaces faces = list_all (λ face. face.byte == space) faces

-- whether nothing is to be seen of cells but their paper
abbrev pub is_bare : List Face → Pen → Bool
is_bare faces pen = not (is_ruled pen.rule) && are_spaces faces

-- cells of one pen: their paper where it isn't white, and their text where there is one
abbrev pub drawn_paper : ℕ → ℕ → ℕ → ℕ → List ℕ
drawn_paper x y columns paper = if paper == WHITE then [] else paper_cells x y columns paper

abbrev pub drawn_text : ℕ → ℕ → List Face → Pen → List ℕ
drawn_text x y faces pen = if is_bare faces pen then [] else text_cells x y faces pen

abbrev pub drawn_stretch : ℕ → ℕ → List Face → Pen → List ℕ
drawn_stretch x y faces pen = drawn_paper x y (length faces) pen.paper ++ drawn_text x y faces pen

-- the pen at a column, and whether a stretch of one pen begins there
abbrev pub pen_at : List Face → ℕ → Pen
pen_at row x = (slice_index_or row x (blank_face WHITE)).pen

abbrev pub is_start : List Face → ℕ → Bool
is_start row x = (x == 0) || not (same_pen (pen_at row x) (pen_at row (x - 1)))

-- how many cells there are at the beginning in one pen
abbrev pub is_in_another_pen : Pen → Face → Bool
is_in_another_pen pen face = not (same_pen face.pen pen)

abbrev pub stretch_length : Pen → List Face → ℕ
stretch_length pen faces = position_or_len (is_in_another_pen pen) faces

abbrev pub stretch_at : List Face → ℕ → List Face
stretch_at row x = take (stretch_length (pen_at row x) (drop x row)) (drop x row)

abbrev pub drawn_start : ℕ → List Face → ℕ → List ℕ
drawn_start y row x = if is_start row x then drawn_stretch x y (stretch_at row x) (pen_at row x)
    else []

-- the caret at a cell
abbrev pub drawn_caret : ℕ → ℕ → Mark → List ℕ
drawn_caret x y Marker = []
drawn_caret x y Caret = rectangle (cell_width * x) (cell_height * y) caret_width cell_height BLACK
drawn_caret x y Selected = []
drawn_caret x y Menu = []
drawn_caret x y Bar = []
drawn_caret x y Text = []
drawn_caret x y Filler = []

-- what is drawn at a column of a row from the top
unfoldable pub drawn_column : ℕ → List Cell → List Face → ℕ → List ℕ
drawn_column y cells row x = drawn_start y row x ++ drawn_caret x y (column_at cells x).mark

unfoldable pub drawn_cells : ℕ → List Cell → List Face → List ℕ
drawn_cells y cells row = flat_map (drawn_column y cells row) (range_with_len 0 COLUMNS)

unfoldable pub drawn_row : List (List Cell) → ℕ → List ℕ
drawn_row screen y = drawn_cells y (row_at screen (ROWS - 1 - y))
    (row_of_cells (row_at screen (ROWS - 1 - y)))

abbrev pub drawn_rows : List (List Cell) → List ℕ
drawn_rows screen = flat_map (drawn_row screen) (range_with_len 0 ROWS)

-- how it begins: its size, the font, that spaces count, and white paper
abbrev pub heading : List ℕ
heading = concat
    (codes "<svg xmlns='http://www.w3.org/2000/svg' width='" ∷ decimal (cell_width * COLUMNS)
    ∷ codes "' height='" ∷ decimal (cell_height * ROWS) ∷ codes "' viewBox='0 0 "
    ∷ decimal (cell_width * COLUMNS)
    ∷ codes " " ∷ decimal (cell_height * ROWS)
    ∷ codes "' font-family='DejaVu Sans Mono,Menlo,Consolas,monospace' font-size='15' xml:space='preserve'>\n"
    ∷ codes "<style>text{white-space:pre}</style>\n" ∷ [])

abbrev pub background : List ℕ
background = rectangle 0 0 (cell_width * COLUMNS) (cell_height * ROWS) WHITE

unfoldable pub drawing_of : List (List Cell) → List ℕ
drawing_of screen = concat (heading ∷ background ∷ drawn_rows screen ∷ codes "</svg>\n" ∷ [])
