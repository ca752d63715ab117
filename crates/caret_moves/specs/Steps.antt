-- Where the caret stands after a step, in a text that a viewer shows in h rows of w columns.
use Rattle.std.specs.Prelude.{ℕ, ◌+◌, ◌-◌, min, nat_lt, if◌then◌else◌, List, length}
use Rattle.text_frames.specs.Lines.{line_start, line_above}
use Rattle.text_frames.specs.Cells.{column_of, row_of, position_at}
use Rattle.text_frames.specs.Rules.{is_in_rows}
use Rattle.desk_input.specs.Lines.{start_below, line_below}
use Rattle.caret_moves.specs.declared.wish.Step.{Step}
use Rattle.caret_moves.specs.declared.wish.Step.TheVariants as step
use Rattle.caret_moves.specs.Runs.{next_word, word_before}

-- the column of a position in a frame from org on, or the last one where it stands right of that
abbrev pub column_cut : List ℕ → ℕ → ℕ → ℕ → ℕ
column_cut bs w org p = min (column_of bs org p) (w - 1)

-- the position in the column of p, in the line that starts there
abbrev pub level_with : List ℕ → ℕ → ℕ → ℕ → ℕ
level_with bs w p start = position_at bs start (column_cut bs w 0 p) 0

-- where the line of p ends: before the line below it, or with the text
abbrev pub end_of_line : List ℕ → ℕ → ℕ
end_of_line bs p = if nat_lt p (start_below bs p) then start_below bs p - 1 else length bs

-- the position to which a step leads from p
unfoldable pub step_goal : List ℕ → ℕ → ℕ → ℕ → Step → ℕ
step_goal bs w h p step.Left = p - 1
step_goal bs w h p step.Right = min (p + 1) (length bs)
step_goal bs w h p step.WordLeft = word_before bs p
step_goal bs w h p step.WordRight = next_word bs p
step_goal bs w h p step.Up = level_with bs w p (line_above bs 1 p)
step_goal bs w h p step.Down = level_with bs w p (line_below bs 1 p)
step_goal bs w h p step.LineStart = line_start bs p
step_goal bs w h p step.LineEnd = end_of_line bs p
step_goal bs w h p step.TextStart = 0
step_goal bs w h p step.TextEnd = length bs
step_goal bs w h p step.PageUp = level_with bs w p (line_above bs (h - 1) p)
step_goal bs w h p step.PageDown = level_with bs w p (line_below bs (h - 1) p)

-- where the text is shown from, so that the line of p is in one of the rows: as before where it is in one, and else it
-- comes first, or last where it stands below
abbrev pub org_for : List ℕ → ℕ → ℕ → ℕ → ℕ
org_for bs h org p = if is_in_rows bs h org p then org
    else (if nat_lt p org then line_start bs p else line_above bs (h - 1) p)

-- Where the caret can stand for p: the position at its cell. No cell is right of the last column, so a position there means
-- the one that this column shows.
abbrev pub landing : List ℕ → ℕ → ℕ → ℕ → ℕ
landing bs w org p = position_at bs org (column_cut bs w org p) (row_of bs org p)
