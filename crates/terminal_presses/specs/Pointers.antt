-- Where one points: with the mouse, or with a pointer that keys move.
use Rattle.std.specs.Prelude.{ℕ, ◌+◌, ◌-◌, ◌/◌, if◌then◌else◌, min, Option, Some, None, is_some, option_map, unwrap_or}
use Rattle.viewer_tracks.specs.declared.display.TheConstants.{COLUMNS, ROWS}
use Rattle.terminal_presses.specs.declared.press.Arrow.{Arrow as ArrowKey}
use Rattle.terminal_presses.specs.declared.press.Arrow.TheVariants.{Up, Down, Right, Left, Home, End, WordRight}
use Rattle.terminal_presses.specs.declared.press.Arrow.TheVariants.{WordLeft}
use Rattle.terminal_presses.specs.declared.action.Click.{Click}
use Rattle.terminal_presses.specs.declared.action.Click.TheVariants.{Mark, Keys}
use Rattle.terminal_presses.specs.declared.spot.Spot.{Spot}
use Rattle.terminal_presses.specs.declared.pointer.Pointer.{Pointer}
use Rattle.terminal_presses.specs.declared.pointer.TheConstants.{LEAP}
use Rattle.terminal_presses.specs.Sights.{Sight, spot_in}

-- nothing was pointed at
abbrev pub nowhere : Pointer
nowhere = record { mouse = None; shown = None; left = None; start = None }

abbrev pub middle_of : Sight → Spot
middle_of sight = spot_in sight (COLUMNS / 2) (sight.rows / 2 + 1)

-- where it is shown first: where the mouse has pointed last, else where it was put away, else in the middle
abbrev pub appears : Sight → Pointer → Spot
appears sight pointer = unwrap_or pointer.mouse (unwrap_or pointer.left (middle_of sight))

abbrev pub moved_to : Spot → Pointer → Pointer
moved_to at pointer = record pointer { shown = Some at }

-- it is put away, and begins no draw
abbrev pub laid_aside : Pointer → Pointer
laid_aside pointer = record pointer { shown = None; left = pointer.shown; start = None }

-- nothing is pointed at any more: it is put away, where it is shown, and the place of the mouse counts no longer
unfoldable pub unpointed : Pointer → Pointer
unpointed pointer = record (if is_some pointer.shown then laid_aside pointer else pointer) {
  mouse = None;
}

-- it is shown where it wasn't, and is put away where it was
unfoldable pub toggled : Sight → Pointer → Pointer
toggled sight pointer = if is_some pointer.shown then laid_aside pointer
    else moved_to (appears sight pointer) pointer

-- a function key says what the next click is: a draw begins where the pointer is shown
abbrev pub started : Pointer → Pointer
started pointer = record pointer { start = pointer.shown }

-- so many cells further, within the display; with Ctrl an arrow goes as far as with Shift
unfoldable pub spot_moved : ℕ → ArrowKey → Spot → Spot
spot_moved n Up at = record at { y = min (at.y + n) (ROWS - 1) }
spot_moved n Down at = record at { y = at.y - n }
spot_moved n Right at = record at { x = min (at.x + n) (COLUMNS - 1) }
spot_moved n Left at = record at { x = at.x - n }
spot_moved n Home at = record at { x = 0 }
spot_moved n End at = record at { x = COLUMNS - 1 }
spot_moved n WordRight at = record at { x = min (at.x + LEAP) (COLUMNS - 1) }
spot_moved n WordLeft at = record at { x = at.x - LEAP }

-- Where a click begins that is made at a cell: where its function key was pressed, if the pointer was shown then. The
-- marker is set at the cell itself.
unfoldable pub begins_at : Option Click → Option Spot → Spot → Spot
begins_at None start at = at
begins_at (Some Mark) start at = at
begins_at (Some (Keys keys)) start at = unwrap_or start at

-- the cell that is pointed at: that of the pointer that keys move, where it is shown
abbrev pub shown_or : Option Spot → Option Spot → Option Spot
shown_or None mouse = mouse
shown_or (Some at) mouse = Some at

abbrev pub pointed_cell : Pointer → Option Spot
pointed_cell pointer = shown_or pointer.shown pointer.mouse

-- the column and the row of the display at which the pointer is shown that keys move
abbrev pub pointer_cell : Pointer → Option (ℕ × ℕ)
pointer_cell pointer =
    option_map (λ (at : Spot). (min at.x (COLUMNS - 1), min at.y (ROWS - 1))) pointer.shown
