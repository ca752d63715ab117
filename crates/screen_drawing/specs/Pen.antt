-- How a cell of the screen is drawn on a terminal of 256 colours.
use Rattle.std.specs.Prelude.{◌≡◌, ◌<◌, ℕ, ℤ, pos, negsuc, Bool, false, ◌&&◌, ◌||◌, ◌==◌, nat_lt, if◌then◌else◌, List, [], ◌∷◌}
use Rattle.std.specs.Prelude.{slice_get, unwrap_or}
use Rattle.viewer_tracks.specs.declared.display.TheConstants.{SYSTEM_LEFT}
use Rattle.screen_pictures.specs.declared.cell.Cell.{Cell}
use Rattle.screen_pictures.specs.declared.cell.Mark.{Mark}
use Rattle.screen_pictures.specs.declared.cell.Mark.TheVariants.{Marker, Caret, Selected, Menu, Bar, Text, Filler}
use Rattle.screen_pictures.specs.Bytes.{space, greater_than, question_mark, is_printable}
use Rattle.screen_drawing.specs.declared.pen.Pen.{Pen}
use Rattle.screen_drawing.specs.declared.pen.Weight.{Weight}
use Rattle.screen_drawing.specs.declared.pen.Weight.TheVariants.{Regular, Bold, Faint}
use Rattle.screen_drawing.specs.declared.pen.Rule.{Rule}
use Rattle.screen_drawing.specs.declared.pen.Rule.TheVariants.{Plain, Under, Over}
use Rattle.screen_drawing.specs.declared.pen.TheConstants.{BLACK, DARK_GREY, GREY, LIGHT_BLUE, LIGHT_GREY, RED}
use Rattle.screen_drawing.specs.declared.pen.TheConstants.{WHITE}
use Rattle.screen_drawing.specs.declared.face.Face.{Face}

-- Colours among the terminal's 256: black, two greys, the blue of what is selected, the grey where no viewer is, red and
-- white.
abbrev pub terminal_colours : List ℕ
terminal_colours = 16 ∷ 238 ∷ 246 ∷ 153 ∷ 250 ∷ 160 ∷ 231 ∷ []

-- Oberon's sixteen colours among the terminal's
abbrev pub inks : List ℕ
inks =
    231 ∷ 196 ∷ 46 ∷ 21 ∷ 201 ∷ 226 ∷ 51 ∷ 124 ∷ 28 ∷ 18 ∷ 39 ∷ 30 ∷ 245 ∷ 250 ∷ 254 ∷ 16 ∷ []

abbrev pub ink_of : ℕ → ℕ
ink_of colour = unwrap_or (slice_get inks colour) BLACK

-- the ink of a character of this colour where there is this mark
abbrev pub marked_ink : Mark → ℕ → ℕ
marked_ink Marker colour = WHITE
marked_ink Caret colour = ink_of colour
marked_ink Selected colour = ink_of colour
marked_ink Menu colour = WHITE
marked_ink Bar colour = GREY
marked_ink Text colour = ink_of colour
marked_ink Filler colour = ink_of colour

-- the ink of a cell: that of the bar, where a line goes on beyond it
abbrev pub cell_ink : Cell → ℕ
cell_ink cell = if cell.goes_on then GREY else marked_ink cell.mark cell.look.colour

-- the background at a column where there is this mark: menus of the two tracks differ, so that they don't run together
abbrev pub paper_of : Mark → ℕ → ℕ
paper_of Marker column = RED
paper_of Caret column = WHITE
paper_of Selected column = LIGHT_BLUE
paper_of Menu column = if nat_lt column SYSTEM_LEFT then BLACK else DARK_GREY
paper_of Bar column = WHITE
paper_of Text column = WHITE
paper_of Filler column = LIGHT_GREY

-- of the fonts, 1 is italic, 2 bold, 3 small and 4 large
abbrev pub weight_of : ℕ → Weight
weight_of font = if (font == 2) || (font == 4) then Bold else (if font == 3 then Faint else Regular)

abbrev pub is_slanted : ℕ → Bool
is_slanted font = (font == 1) || (font == 4)

-- how far a character stands above the line, or below it
abbrev pub rule_of : ℤ → Rule
rule_of (pos n) = if nat_lt 0 n then Over else Plain
rule_of (negsuc n) = Under

unfoldable pub pen_of : ℕ → Cell → Pen
pen_of column cell = record {
  ink = cell_ink cell;
  paper = paper_of cell.mark column;
  weight = weight_of cell.look.font;
  is_italic = is_slanted cell.look.font;
  rule = rule_of cell.look.voff;
}

-- the byte that a terminal is sent for one
unfoldable pub sent_byte : ℕ → ℕ
sent_byte b = if is_printable b then b else question_mark

-- the byte that it is sent for a cell: its character, or `>` where a line goes on beyond it
unfoldable pub cell_byte : Cell → ℕ
cell_byte cell = if cell.goes_on then greater_than else sent_byte cell.ch

-- what a terminal shows for the cell at a column
abbrev pub face_of : ℕ → Cell → Face
face_of column cell = record { byte = cell_byte cell; pen = pen_of column cell }

-- the pen of nothing but a paper
abbrev pub plain_pen : ℕ → Pen
plain_pen paper = record {
  ink = BLACK;
  paper = paper;
  weight = Regular;
  is_italic = false;
  rule = Plain;
}

abbrev pub blank_face : ℕ → Face
blank_face paper = record { byte = space; pen = plain_pen paper }

-- the numbers by which a terminal knows styles
abbrev pub weight_code : Weight → ℕ
weight_code Regular = 22
weight_code Bold = 1
weight_code Faint = 2

abbrev pub slant_code : Bool → ℕ
slant_code is_italic = if is_italic then 3 else 23

abbrev pub rule_code : Rule → ℕ
rule_code Plain = 24
rule_code Under = 4
rule_code Over = 53

-- a number is this code, which has at most two digits
abbrev pub IsCode : ℕ → ℕ → Type 0
IsCode number code = (number ≡ code) × (number < 100)

abbrev pub same_pen : Pen → Pen → Bool
same_pen a b =
    (a.ink == b.ink) && ((a.paper == b.paper) && ((weight_code a.weight == weight_code b.weight)
    && ((slant_code a.is_italic == slant_code b.is_italic)
    && (rule_code a.rule == rule_code b.rule))))

abbrev pub same_face : Face → Face → Bool
same_face a b = (a.byte == b.byte) && same_pen a.pen b.pen
