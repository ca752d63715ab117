-- A row as it is painted, from what each track shows in it.
use Rattle.std.specs.Prelude.{ℕ, ◌-◌, List, Option, if◌then◌else◌, nat_lt}
use Rattle.viewer_tracks.specs.declared.display.TheConstants.{COLUMNS, SYSTEM_LEFT}
use Rattle.viewer_tracks.specs.Columns.{Columns}
use Rattle.text_frames.specs.Row.{ShownCell}
use Rattle.screen_pictures.specs.declared.cell.Cell.{Cell}
use Rattle.screen_cells.specs.declared.strip.Strip.{Strip}
use Rattle.screen_pictures.specs.Picture.{Painted, picture, is_at, with_marker}
use Rattle.screen_pictures.specs.Screen.{values}
use Rattle.screen_cells.specs.Shown.{strip_cell}

-- row y of what is painted
abbrev pub painted_row : Columns → List Painted → Option (ℕ × ℕ) → ℕ → List Cell
painted_row columns viewers marker y = values COLUMNS (λ x. picture columns viewers marker x y)

-- the cell at column x of row y, where the tracks show these strips with these lines
abbrev pub strips_cell : Strip → List ShownCell → Strip → List ShownCell → Option (ℕ × ℕ) → ℕ → ℕ
    → Cell
strips_cell user line system other marker y x =
    with_marker (is_at marker x y)
    (if nat_lt x SYSTEM_LEFT then strip_cell user line x
    else strip_cell system other (x - SYSTEM_LEFT))
