-- Lines broken at blanks so that none passes a width, and joined again.
use Rattle.std.specs.Prelude.{ℕ, ◌+◌, Bool, true, ◌&&◌, ◌==◌, nat_le, nat_lt, if◌then◌else◌, List, [], ◌∷◌, ◌++◌}
use Rattle.std.specs.Prelude.{Option, Some, None, Result, Ok, Err}
use Rattle.std.specs.Option.{option_to_list}
use Rattle.event_bytes.specs.Bytes.{carriage_return}
use Rattle.store_documents.specs.HostText.{imported}
use Rattle.store_documents.specs.declared.file_bytes.Unfit.{Unfit}
use Rattle.text_frames.specs.Cells.{column_after}

abbrev pub blank_byte : ℕ
blank_byte = 32

-- the column behind a character that begins in a column
abbrev pub column_behind : ℕ → ℕ → ℕ
column_behind column b = if b == carriage_return then 0 else column_after column b

-- the column behind what stays together: the characters up to the first blank, with this, or up to the line's end
abbrev pub unit_end : ℕ → List ℕ → ℕ
unit_end column [] = column
unit_end column (b ∷ text) =
    if b == carriage_return then column
    else if b == blank_byte then column + 1
    else unit_end (column_after column b) text

-- something stays together from a column on, and passes the width
abbrev pub has_wide_unit : ℕ → ℕ → List ℕ → Bool
has_wide_unit width column text =
    nat_lt width (unit_end column text) && nat_lt column (unit_end column text)

-- a line is broken behind a blank where what follows on it would pass the width
abbrev pub is_broken_behind : ℕ → ℕ → ℕ → List ℕ → Bool
is_broken_behind width column b text = (b == blank_byte) && has_wide_unit width (column + 1) text

-- a text that begins in a column, with its lines broken
abbrev pub filled_from : ℕ → ℕ → List ℕ → List ℕ
filled_from width column [] = []
filled_from width column (b ∷ text) =
    if is_broken_behind width column b text then b ∷ carriage_return ∷ filled_from width 0 text
    else b ∷ filled_from width (column_behind column b) text

abbrev pub filled_text : ℕ → List ℕ → List ℕ
filled_text width text = filled_from width 0 text

-- a text that is broken to a width, if it is to be
abbrev pub laid_out : Option ℕ → List ℕ → List ℕ
laid_out None text = text
laid_out (Some width) text = filled_text width text

-- what a byte of a text is after another one, where lines are joined: a line's end right behind a blank is nothing
abbrev pub kept_byte : ℕ → ℕ → Option ℕ
kept_byte before b = if (b == carriage_return) && (before == blank_byte) then None else Some b

-- the rest of a text after a byte, with its lines joined
abbrev pub joined_after : ℕ → List ℕ → List ℕ
joined_after before [] = []
joined_after before (b ∷ text) = option_to_list (kept_byte before b) ++ joined_after b text

abbrev pub joined_text : List ℕ → List ℕ
joined_text text = joined_after 0 text

-- no line of a text that begins in a column has more columns than the width
abbrev pub has_narrow_lines : ℕ → ℕ → List ℕ → Bool
has_narrow_lines width column [] = nat_le column width
has_narrow_lines width column (b ∷ text) =
    nat_le column width && has_narrow_lines width (column_behind column b) text

-- at the beginning of a line nothing that stays together has more columns than the width
abbrev pub has_short_units : ℕ → List ℕ → Bool
has_short_units width [] = true
has_short_units width (b ∷ text) =
    nat_le (unit_end 0 (b ∷ text)) width && has_short_units width text

-- the document of a file, laid out, or why the file is none
abbrev pub document_laid_out : Option ℕ → List ℕ → Result (List ℕ) Unfit
document_laid_out width file = elim (imported file) [
  | Ok text ↦ Ok (laid_out width text)
  | Err unfit ↦ Err unfit
]
