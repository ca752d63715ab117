-- A printed screen. The lines of its rows come from the top down: first all with their characters, then, after a line
-- `marks`, those of the rows in which the marker, a caret or a selected character is, with a letter for each cell, and at
-- last a line `end`.
use Rattle.std.specs.Prelude.{ℕ, ◌/◌, ◌%◌, Bool, ◌==◌, List, [], ◌∷◌, ◌++◌, length, take, drop, map, filter, reverse}
use Rattle.std.specs.Prelude.{codes}
use Rattle.std.specs.List.{flat_map, list_all, list_any, position_or_len, range_with_len}
use Rattle.viewer_tracks.specs.declared.display.TheConstants.{ROWS}
use Rattle.screen_pictures.specs.declared.cell.Cell.{Cell}
use Rattle.screen_pictures.specs.Bytes.{space, period, line_feed, digit}
use Rattle.screen_pictures.specs.Mark.{letter, has_letter}
use Rattle.screen_pictures.specs.Screen.{row_at}

-- the least number below n that passes, or n where none does
unfoldable pub least : ℕ → (ℕ → Bool) → ℕ
least n passes = position_or_len passes (range_with_len 0 n)

-- the least prefix of the bytes after which all are `blank`
unfoldable pub without_trailing : ℕ → List ℕ → List ℕ
without_trailing blank bytes =
    take (least (length bytes) (λ n. list_all (λ b. b == blank) (drop n bytes))) bytes

abbrev pub ended_line : List ℕ → List ℕ
ended_line text = text ++ line_feed ∷ []

-- a row's number in two digits, a colon, and its bytes without blanks at their end
abbrev pub row_line : ℕ → ℕ → List ℕ → List ℕ
row_line y blank bytes = ended_line ((digit (y / 10) ∷ digit (y % 10) ∷ codes ":")
    ++ without_trailing blank bytes)

abbrev pub character_line : ℕ → List Cell → List ℕ
character_line y row = row_line y space (map (λ c. c.ch) row)

abbrev pub mark_line : ℕ → List Cell → List ℕ
mark_line y row = row_line y period (map (λ c. letter c.mark) row)

-- whether the marker, a caret or a selected character is in the row
abbrev pub has_mark_line : List Cell → Bool
has_mark_line row = list_any (λ c. has_letter c.mark) row

-- the numbers below n, from the greatest down
unfoldable pub down_from : ℕ → List ℕ
down_from n = reverse (range_with_len 0 n)

abbrev pub character_lines : List (List Cell) → List ℕ
character_lines screen = flat_map (λ y. character_line y (row_at screen y)) (down_from ROWS)

abbrev pub mark_lines : List (List Cell) → List ℕ
mark_lines screen = flat_map (λ y. mark_line y (row_at screen y))
    (filter (λ y. has_mark_line (row_at screen y))
    (down_from ROWS))

unfoldable pub printed : List (List Cell) → List ℕ
printed screen = character_lines screen
    ++ (ended_line (codes "marks") ++ (mark_lines screen ++ ended_line (codes "end")))
