-- Viewers that are open, as their menus are seen.
use Rattle.std.specs.Prelude.{ℕ, ◌+◌, ◌-◌, ◌*◌, ◌^◌, Bool, false, true, ◌&&◌, nat_lt, if◌then◌else◌, List, [], ◌∷◌, length, min}
use Rattle.std.specs.Prelude.{position, slice_get, Option, Some, None, option_map}
use Rattle.std.specs.List.{range_with_len}
use Rattle.std.specs.Str.{bytes_eq}
use Rattle.viewer_tracks.specs.declared.display.TheConstants.{ROWS, SYSTEM_LEFT}
use Rattle.screen_pictures.specs.declared.cell.Cell.{Cell}
use Rattle.screen_pictures.specs.declared.cell.Mark.{Mark}
use Rattle.screen_pictures.specs.declared.cell.Mark.TheVariants.{Menu}
use Rattle.screen_reading.specs.Called.{called_word, parameter_word, word_from}
use Rattle.status_line.specs.Named.{opens}

-- Behind the name in the menu of a viewer that opens come a blank, a bar, a blank and the word that closes it: its first
-- cell, where the menu begins at a cell.
unfoldable pub closing_cell : List (List Cell) → ℕ × ℕ → ℕ × ℕ
closing_cell screen at =
    (min (at.0 + (length (word_from screen at.0 at.1) + 3)) (2 ^ 8 - 1), at.1)

-- ---- a menu, by the name in it

-- the cell in which a menu may begin, by its number: the rows from the bottom, first those on the left
unfoldable pub menu_spot : ℕ → ℕ × ℕ
menu_spot k = if nat_lt k ROWS then (0, k) else (SYSTEM_LEFT, k - ROWS)

abbrev pub is_menu : Mark → Bool
is_menu Menu = true
is_menu mark = false

abbrev pub shows_menu : Option Cell → Bool
shows_menu None = false
shows_menu (Some cell) = is_menu cell.mark

abbrev pub shows_menu_in : Option (List Cell) → ℕ → Bool
shows_menu_in None x = false
shows_menu_in (Some row) x = shows_menu (slice_get row x)

-- whether a menu begins there with a name
abbrev pub names_menu : List (List Cell) → List ℕ → ℕ × ℕ → Bool
names_menu screen name at = shows_menu_in (slice_get screen at.1) at.0
    && bytes_eq (word_from screen at.0 at.1) name

-- the first cell in which one does
unfoldable pub menu_named : List (List Cell) → List ℕ → Option (ℕ × ℕ)
menu_named screen name = option_map menu_spot
    (position (λ k. names_menu screen name (menu_spot k)) (range_with_len 0 (2 * ROWS)))

-- ---- what is opened once more

unfoldable pub menu_for : List (List Cell) → List ℕ → Option (ℕ × ℕ)
menu_for screen [] = None
menu_for screen (b ∷ name) = menu_named screen (b ∷ name)

-- the menu of a viewer that is open, where the word at a cell opens the document of its name
unfoldable pub menu_reopened : List (List Cell) → ℕ → ℕ → Option (ℕ × ℕ)
menu_reopened screen x y = if opens (called_word screen x y)
    then menu_for screen (parameter_word screen x y) else None
