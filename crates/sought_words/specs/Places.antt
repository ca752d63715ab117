-- The places of a text at which words are.
use Rattle.std.specs.Prelude.{ℕ, zero, suc, ◌+◌, ◌-◌, ◌^◌, Bool, false, ◌==◌, ◌&&◌, not, nat_lt, min, if◌then◌else◌}
use Rattle.std.specs.Prelude.{List, length, take, drop, fold, position, slice_get, Option, Some, None, option_map, unwrap_or}
use Rattle.std.specs.Str.{bytes_eq}
use Rattle.event_bytes.specs.Bytes.{carriage_return}
use Rattle.filled_pastes.specs.Poured.{column_then}

-- whether the words are at position q
abbrev pub stands_at : List ℕ → List ℕ → ℕ → Bool
stands_at bytes words q = bytes_eq words (take (length words) (drop q bytes))

-- The least position from p on at which they are is `found_at bytes words p`, as of a search by the command. This is the
-- greatest one before p.
unfoldable pub found_before : List ℕ → List ℕ → ℕ → Option ℕ
found_before bytes words zero = None
found_before bytes words (suc q) =
    if stands_at bytes words q then Some q else found_before bytes words q

-- ---- lines and columns

abbrev pub closes_line : ℕ → Bool
closes_line b = b == carriage_return

abbrev pub one_line_more : ℕ → ℕ → ℕ
one_line_more n b = if closes_line b then min (n + 1) (2 ^ 64 - 1) else n

-- how many lines end in these bytes
abbrev pub ended_lines : List ℕ → ℕ
ended_lines bytes = fold one_line_more 0 bytes

-- the number of the line of p, counted from 0: how many lines end before it
abbrev pub place_line : List ℕ → ℕ → ℕ
place_line bytes p = ended_lines (take p bytes)

-- the column behind these bytes in a viewer of w columns of text, and w where that is right of the last one
abbrev pub reached_column : ℕ → List ℕ → ℕ
reached_column w bytes = fold (column_then w) 0 bytes

-- the column of p in a viewer of w columns of text, and w where it stands right of the last one
abbrev pub place_column : List ℕ → ℕ → ℕ → ℕ
place_column bytes w p = reached_column w (take p bytes)

-- whether a character in a column goes beyond the last one
abbrev pub goes_beyond : ℕ → ℕ → Option ℕ → Bool
goes_beyond w c None = false
goes_beyond w c (Some b) = nat_lt c w && not (nat_lt (column_then w c b) w)

-- whether the caret stands at p before such a character, and so can go no further in its line
abbrev pub is_at_edge : List ℕ → ℕ → ℕ → Bool
is_at_edge bytes w p = goes_beyond w (place_column bytes w p) (slice_get bytes p)

abbrev pub line_end_from : List ℕ → ℕ → ℕ
line_end_from bytes p =
    unwrap_or (option_map (λ n. p + n) (position closes_line (drop p bytes))) (length bytes)

-- where a search goes on from the caret: there, and where that can go no further, at the end of the line
unfoldable pub going_on : List ℕ → ℕ → ℕ → ℕ
going_on bytes w p = if is_at_edge bytes w p then line_end_from bytes p else p
