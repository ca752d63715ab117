-- A paragraph is filled: a line ends before a word for which it has no room, and goes on where it has room for the first
-- word of the next one. Only ends of lines and blanks come and go. One edit is made at a time, the first one.
use Rattle.std.specs.Prelude.{ℕ, zero, suc, ◌+◌, ◌-◌, ◌^◌, Bool, true, false, ◌==◌, ◌&&◌, ◌||◌, not, nat_le, nat_lt, min}
use Rattle.std.specs.Prelude.{if◌then◌else◌, List, ◌∷◌, ◌++◌, length, take, drop, fold, find, slice_get, slice_range}
use Rattle.std.specs.Prelude.{Option, Some, None, is_some}
use Rattle.std.specs.List.{list_any, range_with_len}
use Rattle.event_bytes.specs.Bytes.{carriage_return}
use Rattle.screen_pictures.specs.Bytes.{space}
use Rattle.text_frames.specs.Lines.{ends_line, greatest_where, line_start}
use Rattle.filled_pastes.specs.Poured.{column_then, is_gap, word_length}
use Rattle.filled_pastes.specs.declared.edits.Edit.{Edit}
use Rattle.filled_pastes.specs.declared.edits.Edit.TheVariants.{Ends, Tears, Joins, Blanks}

-- ---- what stands where, in a text of which a viewer shows w columns

-- the line of p before p
abbrev pub line_before : List ℕ → ℕ → List ℕ
line_before bs p = slice_range bs (line_start bs p) p

-- something but blanks stands there
abbrev pub is_no_gap : ℕ → Bool
is_no_gap b = not (is_gap b)

abbrev pub is_written : List ℕ → ℕ → Bool
is_written bs p = list_any is_no_gap (line_before bs p)

-- the column behind these bytes, and w where that is right of the last one
abbrev pub text_column_behind : ℕ → List ℕ → ℕ
text_column_behind w bs = fold (column_then w) 0 bs

-- the column of p
abbrev pub text_column_at : List ℕ → ℕ → ℕ → ℕ
text_column_at bs w p = text_column_behind w (line_before bs p)

-- how many characters the word has that begins at p
abbrev pub word_length_at : List ℕ → ℕ → ℕ
word_length_at bs p = word_length (drop p bs)

-- a blank stands right before p
abbrev pub is_gap_there : Option ℕ → Bool
is_gap_there None = false
is_gap_there (Some b) = is_gap b

unfoldable pub follows_blank : List ℕ → ℕ → Bool
follows_blank bs zero = false
follows_blank bs (suc k) = is_gap_there (slice_get bs k)

-- a line ends at e
abbrev pub ends_at : List ℕ → ℕ → Bool
ends_at bs e = ends_line (slice_get bs e)

-- and that is within a paragraph: something is written before it, and the next line begins with a word
unfoldable pub runs_on : List ℕ → ℕ → Bool
runs_on bs e = ends_at bs e && (is_written bs e && nat_lt 0 (word_length_at bs (e + 1)))

-- ---- a line ends before a word

-- a word begins at q that passes the edge, and isn't the first one of its line
unfoldable pub turns_at : List ℕ → ℕ → ℕ → Bool
turns_at bs w q = follows_blank bs q && (is_written bs q
    && (nat_lt 0 (word_length_at bs q)
    && not (nat_lt (text_column_at bs w q + word_length_at bs q) w)))

-- the last position up to q that is in sight
abbrev pub is_visible : List ℕ → ℕ → ℕ → Bool
is_visible bs w t = nat_lt (text_column_at bs w t) w

unfoldable pub last_seen : List ℕ → ℕ → ℕ → ℕ
last_seen bs w q = greatest_where (is_visible bs w) q

-- q comes into sight where the line is torn there
unfoldable pub is_in_reach : List ℕ → ℕ → ℕ → Bool
is_in_reach bs w q = nat_lt (text_column_behind w (slice_range bs (last_seen bs w q) q)) w

-- the line is to end before q; where that isn't in sight, it is torn first
abbrev pub end_from : ℕ → ℕ → Edit
end_from t q = if t == q then Ends q else Tears t q

-- ---- a line goes on

-- a blank more, where none stands before the end of the line
abbrev pub blanks_missing : List ℕ → ℕ → ℕ
blanks_missing bs e = if follows_blank bs e then 0 else 1

-- the line that ends at e has room for the first word of the next one
unfoldable pub has_place : List ℕ → ℕ → ℕ → Bool
has_place bs w e =
    nat_lt (text_column_at bs w e + blanks_missing bs e + word_length_at bs (e + 1)) w

abbrev pub go_on : List ℕ → ℕ → Edit
go_on bs e = if follows_blank bs e then Joins e else Blanks e

-- ---- the paragraph

unfoldable pub edit_at : List ℕ → ℕ → ℕ → Option Edit
edit_at bs w q =
    if turns_at bs w q && is_in_reach bs w q then Some (end_from (last_seen bs w q) q) else
    (if runs_on bs q && has_place bs w q then Some (go_on bs q) else None)

-- a paragraph ends at e
unfoldable pub stops_at : List ℕ → ℕ → Bool
stops_at bs e = ends_at bs e && not (runs_on bs e)

abbrev pub begins_paragraph : List ℕ → ℕ → Bool
begins_paragraph bs zero = true
begins_paragraph bs (suc k) = stops_at bs k

-- where the paragraph of p begins
unfoldable pub paragraph_start : List ℕ → ℕ → ℕ
paragraph_start bs p = greatest_where (begins_paragraph bs) p

-- the paragraph ends there, or an edit is to be made there
unfoldable pub is_to_do : List ℕ → ℕ → ℕ → Bool
is_to_do bs w q = stops_at bs q || is_some (edit_at bs w q)

abbrev pub due_from : List ℕ → ℕ → ℕ → Option ℕ
due_from bs w start = find (is_to_do bs w) (range_with_len start (length bs - start))

abbrev pub edit_found : List ℕ → ℕ → Option ℕ → Option Edit
edit_found bs w None = None
edit_found bs w (Some q) = edit_at bs w q

-- the first edit of the paragraph of p, where it isn't filled
unfoldable pub fill_edit : List ℕ → ℕ → ℕ → Option Edit
fill_edit bs w p = edit_found bs w (due_from bs w (paragraph_start bs p))

-- where the caret belongs after an edit that belongs at p: behind the same characters
abbrev pub one_on : ℕ → ℕ → ℕ
one_on q p = if nat_le q p then min (p + 1) (2 ^ 32 - 1) else p

unfoldable pub moved : Edit → ℕ → ℕ
moved (Ends q) p = one_on q p
moved (Tears t q) p = one_on q p
moved (Joins e) p = if nat_lt e p then p - 1 else p
moved (Blanks e) p = p

-- the text after it
abbrev pub after_edit : List ℕ → Edit → List ℕ
after_edit bs (Ends q) = take q bs ++ carriage_return ∷ drop q bs
after_edit bs (Tears t q) = take q bs ++ carriage_return ∷ drop q bs
after_edit bs (Joins e) = take e bs ++ drop (e + 1) bs
after_edit bs (Blanks e) = take e bs ++ space ∷ drop (e + 1) bs
