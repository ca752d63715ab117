-- Lines that are kept from one screen to the next, and what is true of them. Texts go by number: `texts` tells the text
-- of each number.
use Rattle.std.specs.Prelude.{◌≡◌, ◌≤◌, ◌<◌, ◌⊎◌, ℕ, List, [], length, map, Option, None, Some, IfSome}
use Rattle.std.specs.List.{All}
use Rattle.piece_ring.specs.Text.{Text}
use Rattle.piece_ring.specs.Flat.{flat}
use Rattle.readers_scanners.specs.Reading.{contents}
use Rattle.text_frames.specs.Cells.{row_of}
use Rattle.text_frames.specs.Row.{ShownCell, row_cells}
use Rattle.screen_pictures.specs.Picture.{caret_at}
use Rattle.viewer_tracks.specs.declared.display.TheConstants.{ROWS}
use Rattle.screen_cells.specs.declared.shown.Shown.{Shown}
use Rattle.screen_cells.specs.declared.lines.LineKey.{LineKey}
use Rattle.screen_cells.specs.declared.lines.KeptLine.{KeptLine}
use Rattle.screen_cells.specs.declared.lines.CaretKey.{CaretKey}
use Rattle.screen_cells.specs.declared.lines.KeptCaret.{KeptCaret}
use Rattle.screen_cells.specs.declared.lines.KeptLines.{KeptLines}

-- ---- truth

-- its cells are those of its row
abbrev pub IsLineOf : (ℕ → Text ℕ) → KeptLine → Type 0
IsLineOf texts line =
    line.cells
    ≡ row_cells line.key.frame.width (texts line.key.frame.text) line.key.frame.org line.key.row

abbrev pub IsSlotOf : (ℕ → Text ℕ) → Option KeptLine → Type 0
IsSlotOf texts slot = IfSome slot (IsLineOf texts)

-- its cell is where the caret stands
abbrev pub IsCaretOf : (ℕ → Text ℕ) → KeptCaret → Type 0
IsCaretOf texts c =
    c.cell
    ≡ caret_at c.key.frame.width c.key.rows (texts c.key.frame.text) c.key.frame.org
    (Some c.key.position)

-- the cells that are kept in a line's place
abbrev pub kept_cells : Option KeptLine → List ShownCell
kept_cells None = []
kept_cells (Some line) = line.cells

-- all that is kept is so
pub record AreLinesOf (texts : ℕ → Text ℕ) (lines : KeptLines) : Type 0 where
  pub user : All (IsSlotOf texts) lines.user.items
  pub system : All (IsSlotOf texts) lines.system.items
  pub caret : IfSome lines.caret (IsCaretOf texts)

-- the texts of a viewer are those of the numbers that it names
pub record IsNumbered (texts : ℕ → Text ℕ) (characters : List ℕ) (s : Shown) : Type 0 where
  pub menu : texts s.menu_text ≡ contents characters (flat s.menu.now)
  pub main : texts s.frame.text ≡ contents characters (flat s.main.now)

-- ---- rows above a position

-- the row is that of the position in a frame that shows the text from org on, or 0, above which there is none
abbrev pub IsAbove : Text ℕ → ℕ → ℕ → ℕ → Type 0
IsAbove text p org row = (row ≡ 0)
    ⊎ ((org ≤ p) × (p ≤ length text) × (row ≡ row_of (map (λ c. c.0) text) org p))

-- the rows above that one are the same in both texts, however wide they are
abbrev pub HasSameRows : Text ℕ → Text ℕ → ℕ → ℕ → Type 0
HasSameRows before after org row = (w r : ℕ) → r < row
    → row_cells w after org r ≡ row_cells w before org r

-- ---- what is kept

abbrev pub HasLine : LineKey → Option KeptLine → Type 0
HasLine key None = ⊥
HasLine key (Some line) = line.key ≡ key

abbrev pub HasCaretKey : CaretKey → Option KeptCaret → Type 0
HasCaretKey key None = ⊥
HasCaretKey key (Some caret) = caret.key ≡ key

-- there is a place for a line of each row of the display
pub record HavePlaces (lines : KeptLines) : Type 0 where
  pub user : ROWS ≤ length lines.user.items
  pub system : ROWS ≤ length lines.system.items
