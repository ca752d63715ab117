-- Which line of a text is wished that is shown from `org` on in h rows, and which way leads there.
use Rattle.std.specs.Prelude.{ℕ, zero, suc, ◌-◌, ◌*◌, ◌/◌, nat_le, if◌then◌else◌, List, length, Option, Some, None}
use Rattle.text_frames.specs.Lines.{line_start, line_above, ends_between, greatest_where}
use Rattle.text_frames.specs.Cells.{position_at}
use Rattle.text_frames.specs.Rules.{is_in_rows}
use Rattle.desk_input.specs.declared.wish.Wish.{Wish}
use Rattle.desk_input.specs.declared.wish.Wish.TheVariants.{Up, Down, PageUp, PageDown, Line}
use Rattle.desk_input.specs.declared.way.Way.{Way}

-- ---- the wish

-- where the line starts that is shown in the row below that of p; below the last line, where that starts
abbrev pub start_below : List ℕ → ℕ → ℕ
start_below bs p = line_start bs (position_at bs p 0 1)

-- where the line starts that stands n lines below that of p, or the last one where there are fewer
abbrev pub line_below : List ℕ → ℕ → ℕ → ℕ
line_below bs zero p = line_start bs p
line_below bs (suc n) p = line_below bs n (start_below bs p)

-- where the wished line starts
unfoldable pub wished : List ℕ → ℕ → ℕ → Wish → ℕ
wished bs h org (Up n) = line_above bs n org
wished bs h org (Down n) = line_below bs n org
wished bs h org PageUp = line_above bs (h - 1) org
wished bs h org PageDown = line_below bs (h - 1) org
wished bs h org (Line n) = line_below bs n 0

-- ---- the way

-- where the line starts to which the middle button comes at a row
abbrev pub share_start : List ℕ → ℕ → ℕ → ℕ
share_start bs h row = line_start bs (length bs * row / h)

-- the last row whose line isn't behind t
abbrev pub share_row : List ℕ → ℕ → ℕ → ℕ
share_row bs h t = greatest_where (λ row. nat_le (share_start bs h row) t) (h - 1)

-- by the middle button, and down from there
abbrev pub way_by_share : List ℕ → ℕ → ℕ → Way
way_by_share bs h t = record {
  share = Some (share_row bs h t);
  lines = ends_between bs (share_start bs h (share_row bs h t)) t;
}

-- how far a line stands below org, where it is in sight
abbrev pub lines_in_sight : List ℕ → ℕ → ℕ → ℕ → Option ℕ
lines_in_sight bs h org t =
    if is_in_rows bs h org t then Some (ends_between bs org t) else None

-- down from org by so many lines, and another way where these aren't known
abbrev pub way_or : Option ℕ → Way → Way
way_or None way = way
way_or (Some lines) way = record { share = None; lines = lines }

-- to a line in sight it is a way down from org, to any other one by the middle button
unfoldable pub way_to : List ℕ → ℕ → ℕ → ℕ → Way
way_to bs h org t = way_or (lines_in_sight bs h org t) (way_by_share bs h t)
