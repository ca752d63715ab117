-- What the mouse reads of a viewer's main text.
use Rattle.std.specs.Prelude.{ℕ, ◌==◌, if◌then◌else◌, length, ◌*◌, ◌/◌, Option, Some, None}
use Rattle.text_frames.specs.Lines.{line_start}
use Rattle.text_frames.specs.Cells.{position_at, row_of}
use Rattle.desktop_definitions.specs.Desktop.{Desktop}
use Rattle.desktop_definitions.specs.Viewers.{viewer_of, main_of, rows_of}
use Rattle.desktop_definitions.specs.Change.{bytes_of}

-- the position in a viewer's main text at a column and a row of its main frame
unfoldable pub position_in : Desktop → ℕ → ℕ → ℕ → ℕ
position_in d v column row = position_at (bytes_of (main_of d v)) (viewer_of d v).org column row

-- where the line begins that a viewer shows in that row, if it shows one there
unfoldable pub start_of_row : Desktop → ℕ → ℕ → Option ℕ
start_of_row d v row =
    if row_of (bytes_of (main_of d v)) (viewer_of d v).org (position_in d v 0 row) == row
    then Some (position_in d v 0 row)
    else None

-- where the line begins that stands as far down in a viewer's main text as the row in its main frame
unfoldable pub start_of_share : Desktop → ℕ → ℕ → ℕ
start_of_share d v row =
    line_start (bytes_of (main_of d v)) (length (main_of d v) * row / rows_of d v)
