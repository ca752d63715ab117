-- The cells of the display that a terminal shows.
use Rattle.std.specs.Prelude.{ℕ, ◌+◌, ◌-◌, ◌<◌, ◌≤◌, ◌==◌, Bool, ◌&&◌, nat_le, if◌then◌else◌, min, Option, Some, None}
use Rattle.event_bytes.specs.Bytes.{lies_within}
use Rattle.viewer_tracks.specs.declared.display.TheConstants.{COLUMNS, ROWS, SYSTEM_LEFT}
use Rattle.viewer_tracks.specs.declared.display.Track.{Track}
use Rattle.viewer_tracks.specs.declared.display.Track.TheVariants.{User, System}
use Rattle.viewer_tracks.specs.Display.{left_of}
use Rattle.terminal_presses.specs.declared.spot.Spot.{Spot}

-- the row of the display that the terminal's first row shows, and how many rows are in sight; how many columns the
-- terminal has, as far as the display has them, and the side that is shown where the display has more
pub record Sight : Type 0 where
  pub top : ℕ
  pub rows : ℕ
  pub width : ℕ
  pub side : Track

-- they are rows of the display, at least one, and so are the columns
pub record IsSight (sight : Sight) : Type 0 where
  pub top_in : sight.top < ROWS
  pub rows_least : 1 ≤ sight.rows
  pub rows_in : sight.rows ≤ sight.top + 1
  pub width_least : 1 ≤ sight.width
  pub width_in : sight.width ≤ COLUMNS

-- the column of the display that the terminal's first column shows
unfoldable pub first_column : Sight → ℕ
first_column sight = if sight.width == COLUMNS then 0 else left_of sight.side

-- how many columns of a side a terminal of fewer columns than the display shows
abbrev pub columns_beside : Track → ℕ → ℕ
columns_beside User width = min width SYSTEM_LEFT
columns_beside System width = min width (COLUMNS - SYSTEM_LEFT)

-- how many columns are in sight: all, or those of one side
unfoldable pub columns_in_sight : Sight → ℕ
columns_in_sight sight =
    if sight.width == COLUMNS then COLUMNS else columns_beside sight.side sight.width

-- whether a column and a row of the terminal show a cell of the display
unfoldable pub is_in_sight : Sight → ℕ → ℕ → Bool
is_in_sight sight column row =
    lies_within 1 (columns_in_sight sight) column && lies_within 1 sight.rows row

-- The cell in sight that is nearest to a column and a row of the terminal. Those count from 1 at the upper left, and
-- the display's own from 0 at the lower left.
unfoldable pub spot_in : Sight → ℕ → ℕ → Spot
spot_in sight column row = record {
  x = first_column sight + min (column - 1) (columns_in_sight sight - 1);
  y = sight.top - min (row - 1) (sight.rows - 1);
}

-- the cell that a column and a row of the terminal show; none outside the display
abbrev pub cell_shown : Sight → ℕ → ℕ → Option Spot
cell_shown sight column row =
    if is_in_sight sight column row then Some (spot_in sight column row) else None

-- the column and the row of the terminal, counted from 0 at the upper left, at which a cell of the display is; none to the
-- left of what is in sight, or above it
unfoldable pub terminal_place : Sight → ℕ × ℕ → Option (ℕ × ℕ)
terminal_place sight at =
    if nat_le (first_column sight) at.0 && nat_le at.1 sight.top
    then Some (at.0 - first_column sight, sight.top - at.1)
    else None
