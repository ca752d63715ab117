-- The mark of a cell.
use Rattle.std.specs.Prelude.{ℕ, Bool, true, false, if◌then◌else◌}
use Rattle.screen_pictures.specs.Bytes.{period}
use Rattle.screen_pictures.specs.declared.cell.Mark.{Mark}
use Rattle.screen_pictures.specs.declared.cell.Mark.TheVariants.{Marker, Caret, Selected, Menu, Bar, Text, Filler}

-- the first that holds: the marker stands at the cell, a caret does, its character is selected, or else the part of
-- the display
abbrev pub mark_of : Bool → Bool → Bool → Mark → Mark
mark_of has_marker has_caret is_selected part =
    if has_marker then Marker else (if has_caret then Caret
    else (if is_selected then Selected else part))

-- whether a mark has a letter of its own, being more than a part of the display
abbrev pub has_letter : Mark → Bool
has_letter Marker = true
has_letter Caret = true
has_letter Selected = true
has_letter _ = false

-- the byte that is printed for a mark: the letter m, c or s, or a period for a part of the display
abbrev pub letter : Mark → ℕ
letter Marker = 109
letter Caret = 99
letter Selected = 115
letter Menu = period
letter Bar = period
letter Text = period
letter Filler = period
