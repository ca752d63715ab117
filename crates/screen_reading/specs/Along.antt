-- What stands in a row of the screen, by the kinds of its cells.
use Rattle.std.specs.Prelude.{ℕ, zero, suc, ◌+◌, Bool, true, false, ◌==◌, not, if◌then◌else◌, List, length, drop}
use Rattle.std.specs.Prelude.{position, unwrap_or}
use Rattle.event_bytes.specs.Bytes.{is_name_byte}
use Rattle.screen_pictures.specs.declared.cell.Cell.{Cell}
use Rattle.screen_pictures.specs.declared.cell.Mark.{Mark}
use Rattle.screen_pictures.specs.declared.cell.Mark.TheVariants.{Caret, Marker, Selected, Text as TextMark}
use Rattle.screen_pictures.specs.Screen.{column_at}
use Rattle.screen_reading.specs.declared.along.Kind.{Kind}
use Rattle.screen_reading.specs.declared.along.Kind.TheVariants.{Text, Blank, Name, Period}

-- where a text is shown that has no caret there
abbrev pub is_text : Mark → Bool
is_text Marker = true
is_text Selected = true
is_text TextMark = true
is_text _ = false

-- where a text is shown
abbrev pub shows_text : Mark → Bool
shows_text Caret = true
shows_text mark = is_text mark

-- whether a cell shows a text, a blank, a byte of a name, or a period
unfoldable pub is_of : Kind → Cell → Bool
is_of Text cell = shows_text cell.mark
is_of Blank cell = cell.ch == 32
is_of Name cell = is_name_byte cell.ch
is_of Period cell = cell.ch == 46

-- how many cells from the first on are of a kind
abbrev pub kind_run : Kind → List Cell → ℕ
kind_run kind cells = unwrap_or (position (λ cell. not (is_of kind cell)) cells) (length cells)

-- the column behind those of a kind that stand from column x on
abbrev pub end_of : Kind → List Cell → ℕ → ℕ
end_of kind row x = x + kind_run kind (drop x row)

-- the first column of those of a kind that stand right before column x
unfoldable pub begin_of : Kind → List Cell → ℕ → ℕ
begin_of kind row zero = zero
begin_of kind row (suc x) = if is_of kind (column_at row x) then begin_of kind row x else suc x

-- the last column of the text around column x
abbrev pub last_of : List Cell → ℕ → ℕ
last_of row x = x + kind_run Text (drop (x + 1) row)
