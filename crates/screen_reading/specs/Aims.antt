-- The cell of the caret, as a screen shows it.
use Rattle.std.specs.Prelude.{ℕ, Bool, true, false, List, Option, Some, None, position}
use Rattle.std.specs.List.{list_any}
use Rattle.screen_pictures.specs.declared.cell.Cell.{Cell}
use Rattle.screen_pictures.specs.declared.cell.Mark.{Mark}
use Rattle.screen_pictures.specs.declared.cell.Mark.TheVariants.{Caret}
use Rattle.screen_pictures.specs.Screen.{row_at}
pub use Rattle.event_bytes.specs.Parts.{◌>>=◌}

abbrev pub is_caret : Mark → Bool
is_caret Caret = true
is_caret _ = false

abbrev pub has_caret : List Cell → Bool
has_caret row = list_any (λ cell. is_caret cell.mark) row

-- the lowest row in which the caret is seen, and its first column there
unfoldable pub caret_cell : List (List Cell) → Option (ℕ × ℕ)
caret_cell screen = do
  y ← position has_caret screen
  x ← position (λ cell. is_caret cell.mark) (row_at screen y)
  Some (x, y)

abbrev pub or_else : {A : Type 0} → Option A → Option A → Option A
or_else None other = other
or_else (Some a) other = Some a
