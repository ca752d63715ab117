-- The end of a selection that stays where a click extends it.
use Rattle.std.specs.Prelude.{ℕ, ◌+◌, ◌-◌, Bool, true, false, ◌&&◌, ◌||◌, nat_le, nat_lt, if◌then◌else◌, List}
use Rattle.std.specs.Prelude.{max, min, position, Option, Some, None}
use Rattle.std.specs.List.{range_with_len}
use Rattle.viewer_tracks.specs.declared.tracks.Place.{Place}
use Rattle.screen_pictures.specs.declared.cell.Cell.{Cell}
use Rattle.screen_pictures.specs.declared.cell.Mark.{Mark}
use Rattle.screen_pictures.specs.declared.cell.Mark.TheVariants.{Caret, Marker, Selected}
use Rattle.screen_pictures.specs.Screen.{column_at, row_at}
use Rattle.screen_reading.specs.CommandWords.{cell_after, cells_before, count_of_cells}
use Rattle.screen_reading.specs.Frames.{left_at, track_end}

-- a cell of the text of a viewer that stands there
abbrev pub is_in_text : Place → ℕ × ℕ → Bool
is_in_text place at = nat_lt (left_at place.x) at.0 && (nat_lt at.0 (track_end place.x)
    && (nat_le place.bottom at.1 && nat_lt (at.1 + 1) place.top))

abbrev pub is_selected_mark : Mark → Bool
is_selected_mark Selected = true
is_selected_mark _ = false

-- a caret and the marker hide whether their character is selected
abbrev pub hides_character : Mark → Bool
hides_character Caret = true
hides_character Marker = true
hides_character _ = false

-- whether the character at column x of a row is seen as selected: one that is hidden is if the next one is
abbrev pub is_selected_at : List Cell → ℕ → Bool
is_selected_at row x = is_selected_mark (column_at row x).mark
    || (hides_character (column_at row x).mark && is_selected_mark (column_at row (x + 1)).mark)

abbrev pub shows_selected : Place → List (List Cell) → ℕ × ℕ → Bool
shows_selected place screen at = is_in_text place at && is_selected_at (row_at screen at.1) at.0

-- ---- in reading order: the rows from the top, each from the left

-- the cell behind which there are k
abbrev pub cell_from_end : ℕ → ℕ × ℕ
cell_from_end k = cell_after (count_of_cells - 1 - k)

-- the first and the last cell of what is seen selected of a viewer's text: how many come before that, and behind that
unfoldable pub cells_to_first : Place → List (List Cell) → Option ℕ
cells_to_first place screen = position (λ k. shows_selected place screen (cell_after k))
    (range_with_len 0 count_of_cells)

unfoldable pub cells_behind_last : Place → List (List Cell) → Option ℕ
cells_behind_last place screen = position (λ k. shows_selected place screen (cell_from_end k))
    (range_with_len 0 count_of_cells)

abbrev pub distance : ℕ → ℕ → ℕ
distance n m = max n m - min n m

-- of two ends the one that is farther from n, and of two as far the first
abbrev pub farther_end : ℕ → ℕ → ℕ → ℕ
farther_end n first last = if nat_lt (distance n first) (distance n last) then last else first

abbrev pub kept_between : ℕ → Option ℕ → Option ℕ → Option (ℕ × ℕ)
kept_between n None behind = None
kept_between n (Some first) None = None
kept_between n (Some first) (Some behind) =
    Some (cell_after (farther_end n first (count_of_cells - 1 - behind)))

unfoldable pub kept_in : Place → ℕ × ℕ → List (List Cell) → Option (ℕ × ℕ)
kept_in place at screen = kept_between (cells_before at) (cells_to_first place screen)
    (cells_behind_last place screen)

-- The end that stays of what is seen selected in the text of the viewer that stands there, if a click begins in that text
-- and ends at a cell: the one that is farther from this.
unfoldable pub kept_end : Option Place → ℕ × ℕ → ℕ × ℕ → List (List Cell) → Option (ℕ × ℕ)
kept_end None start at screen = None
kept_end (Some place) start at screen =
    if is_in_text place start then kept_in place at screen else None
