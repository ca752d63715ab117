-- What the cell at column x and row y shows: a character, in a look, and a mark; and whether a line goes on beyond it.
--
-- The row under the top of a viewer shows the first line of its menu over the whole width, with hyphens past its end.
-- In the rows below, the first column is the scroll bar, and the others show the lines of the main text from the
-- frame's `org` on. Where no viewer is seen, the cell is filler.
use Rattle.std.specs.Prelude.{ℕ, ◌+◌, ◌-◌, Bool, true, false, ◌&&◌, ◌==◌, nat_le, nat_lt, if◌then◌else◌, List, length}
use Rattle.std.specs.Prelude.{map, Option, Some, None, slice_get}
use Rattle.std.specs.List.{find}
use Rattle.piece_ring.specs.declared.piece.Look.{Look}
use Rattle.piece_ring.specs.Look.{default_look}
use Rattle.piece_ring.specs.Text.{Text}
use Rattle.text_frames.specs.declared.frame.Frame.{Frame}
use Rattle.text_frames.specs.declared.frame.FrameSelection.{FrameSelection}
use Rattle.text_frames.specs.Cells.{cell_of}
use Rattle.text_frames.specs.Row.{row_cells}
use Rattle.viewer_tracks.specs.declared.display.Track.{Track}
use Rattle.viewer_tracks.specs.declared.display.Track.TheVariants.{User, System}
use Rattle.viewer_tracks.specs.declared.display.TheConstants.{COLUMNS, SYSTEM_LEFT}
use Rattle.viewer_tracks.specs.Display.{track_at, left_of}
use Rattle.viewer_tracks.specs.Viewers.{viewer_at}
use Rattle.viewer_tracks.specs.Columns.{Columns, shown_track, placed_bottom, placed_top}
use Rattle.screen_pictures.specs.declared.cell.Cell.{Cell}
use Rattle.screen_pictures.specs.declared.cell.Mark.{Mark}
use Rattle.screen_pictures.specs.declared.cell.Mark.TheVariants.{Marker, Menu, Bar, Text as InText, Filler}
use Rattle.screen_pictures.specs.Bytes.{space, hyphen, vertical_bar, shown_byte}
use Rattle.screen_pictures.specs.Mark.{mark_of}

-- What is painted of a viewer: its number, its menu text and its main text, each character a byte in its look, and the
-- main frame.
pub record Painted : Type 0 where
  pub id : ℕ
  pub menu : Text ℕ
  pub main : Text ℕ
  pub frame : Frame

-- a place is this column and row
abbrev pub is_at : Option (ℕ × ℕ) → ℕ → ℕ → Bool
is_at None x y = false
is_at (Some place) x y = (place.0 == x) && (place.1 == y)

-- what fills a cell of a row, as a character, its look and its position; where nothing does, a byte in the default look
abbrev pub cell_with : ℕ → Option (ℕ × Look × ℕ) → Mark → Cell
cell_with blank None mark =
    record { ch = blank; look = default_look; mark = mark; goes_on = false }
cell_with blank (Some c) mark =
    record { ch = shown_byte c.0; look = c.1; mark = mark; goes_on = false }

-- a cell of a filler, with the marker on it or without
abbrev pub filler_cell : Bool → Cell
filler_cell marker = cell_with space None (mark_of marker false false Filler)

abbrev pub filler : Cell
filler = filler_cell false

abbrev pub menu_cell : List (ℕ × Look × ℕ) → ℕ → Cell
menu_cell line column = cell_with hyphen (slice_get line column) Menu

abbrev pub bar_cell : Cell
bar_cell = cell_with vertical_bar None Bar

-- what fills the cell is a selected character
abbrev pub is_selected : Option FrameSelection → Option (ℕ × Look × ℕ) → Bool
is_selected None c = false
is_selected (Some s) None = false
is_selected (Some s) (Some c) = nat_le s.beg c.2 && nat_lt c.2 s.end

-- a cell of a line of the main text, with the cell of the caret
abbrev pub line_cell : List (ℕ × Look × ℕ) → Option (ℕ × ℕ) → Option FrameSelection → ℕ → ℕ → Cell
line_cell line caret selection column row =
    let c = slice_get line column in
    cell_with space c (mark_of false (is_at caret column row) (is_selected selection c) InText)

-- whether it is the last of w columns, and the line fills more cells than these
abbrev pub is_edge : ℕ → List (ℕ × Look × ℕ) → ℕ → Bool
is_edge w line column = (column + 1 == w) && nat_lt w (length line)

-- a cell beyond which the line goes on, or as it is
abbrev pub with_edge : Bool → Cell → Cell
with_edge here cell = if here then record cell { goes_on = true } else cell

-- a cell of the main text in a row of w columns, with its line
abbrev pub text_cell :
    ℕ → List (ℕ × Look × ℕ) → Option (ℕ × ℕ) → Option FrameSelection → ℕ → ℕ → Cell
text_cell w line caret selection column row =
    with_edge (is_edge w line column) (line_cell line caret selection column row)

-- the cell of a frame of w columns and h rows at which the caret stands, if it has one within its text that is shown
abbrev pub caret_at : ℕ → ℕ → Text ℕ → ℕ → Option ℕ → Option (ℕ × ℕ)
caret_at w h text org None = None
caret_at w h text org (Some p) =
    if nat_le p (length text) then cell_of w h (map (λ c. c.0) text) org p else None

-- the cell of a main frame of w columns beside its bar and h rows; a line has a cell more than these columns, if it
-- goes on
abbrev pub frame_cell : Painted → ℕ → ℕ → ℕ → ℕ → Cell
frame_cell v w h column row =
    if column == 0 then bar_cell else
    text_cell w (row_cells (w + 1) v.main v.frame.org row)
    (caret_at w h v.main v.frame.org v.frame.caret) v.frame.selection
    (column - 1) row

-- the cell in this column, from the viewer's left one, and row y of a viewer of that width and these rows
abbrev pub viewer_cell : Painted → ℕ → ℕ → ℕ → ℕ → ℕ → Cell
viewer_cell v width bottom top column y =
    if top == y + 1 then menu_cell (row_cells width v.menu 0 0) column
    else frame_cell v (width - 1) (top - bottom - 1) column (top - 2 - y)

-- the width of a track
abbrev pub width_of : Track → ℕ
width_of User = SYSTEM_LEFT
width_of System = COLUMNS - SYSTEM_LEFT

-- the cell of a viewer's in this column and row y of its track, where it is among those that are shown, or else filler
abbrev pub shown_cell : Columns → Track → ℕ → ℕ → ℕ → Option Painted → Cell
shown_cell columns track id column y None = filler
shown_cell columns track id column y (Some v) =
    viewer_cell v (width_of track) (placed_bottom columns id) (placed_top columns id) column y

-- the cell in this column and row y of a track, by the viewer that is seen there, the first of its number
abbrev pub seen_cell : Columns → List Painted → Track → ℕ → ℕ → Option ℕ → Cell
seen_cell columns viewers track column y None = filler
seen_cell columns viewers track column y (Some id) =
    shown_cell columns track id column y (find (λ v. v.id == id) viewers)

abbrev pub track_cell : Columns → List Painted → Track → ℕ → ℕ → Cell
track_cell columns viewers track column y =
    seen_cell columns viewers track column y (viewer_at (shown_track columns track) y)

-- a cell with the marker on it, or as it is
abbrev pub with_marker : Bool → Cell → Cell
with_marker here cell = if here then record cell { mark = Marker } else cell

-- the cell, with these columns, viewers and this marker
unfoldable pub picture : Columns → List Painted → Option (ℕ × ℕ) → ℕ → ℕ → Cell
picture columns viewers marker x y =
    with_marker (is_at marker x y)
    (track_cell columns viewers (track_at x) (x - left_of (track_at x)) y)
