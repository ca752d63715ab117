-- Viewers as they are handed in, and what a track shows in a row.
use Rattle.std.specs.Prelude.{◌≤◌, ◌-◌, ◌==◌, ℕ, if◌then◌else◌, List, length, slice_get}
use Rattle.piece_ring.specs.Flat.{flat}
use Rattle.piece_ring.specs.Text.{AreWithin}
use Rattle.readers_scanners.specs.Reading.{contents}
use Rattle.text_frames.specs.Row.{ShownCell}
use Rattle.screen_cells.specs.declared.shown.Shown.{Shown}
use Rattle.screen_cells.specs.declared.strip.Strip.{Strip}
use Rattle.screen_cells.specs.declared.strip.Strip.TheVariants.{Filler, Menu, Frame}
use Rattle.screen_pictures.specs.declared.cell.Cell.{Cell}
use Rattle.screen_pictures.specs.declared.cell.Mark.TheVariants.{Text as InText}
use Rattle.screen_pictures.specs.Bytes.{space}
use Rattle.screen_pictures.specs.Picture.{Painted, filler, bar_cell, cell_with, menu_cell, text_cell}

-- a viewer as it reads, over these characters
abbrev pub as_read : List ℕ → Shown → Painted
as_read characters s = record {
  id = s.id.0;
  menu = contents characters (flat s.menu.now);
  main = contents characters (flat s.main.now);
  frame = s.frame;
}

-- a viewer that can be read where there are so many characters: its frame begins within its text
pub record IsShowable (written : ℕ) (s : Shown) : Type 0 where
  pub org : s.frame.org ≤ length (flat s.main.now)
  pub menu : AreWithin written (flat s.menu.now)
  pub main : AreWithin written (flat s.main.now)

-- the cell in a column of a row of a track that shows this line
abbrev pub strip_cell : Strip → List ShownCell → ℕ → Cell
strip_cell Filler line column = filler
strip_cell Menu line column = menu_cell line column
strip_cell (Frame f) line column =
    if column == 0 then bar_cell
    else text_cell f.columns line f.caret f.selection (column - 1) f.row

-- the cell in a column of a main frame, beside its bar, where neither the caret nor a selected character is
abbrev pub plain_cell : List ShownCell → ℕ → Cell
plain_cell line column = cell_with space (slice_get line column) InText
