-- Which text would be lost where its viewer is closed.
use Rattle.std.specs.Prelude.{ℕ, Bool, true, false, not, ◌==◌, ◌&&◌, nat_lt, List, [], ◌∷◌, length}
use Rattle.std.specs.Prelude.{Option, Some, None, option_map}
use Rattle.std.specs.List.{list_any}
use Rattle.std.specs.Ordering.{int_eq}
use Rattle.piece_ring.specs.declared.piece.Look.{Look}
use Rattle.piece_ring.specs.Text.{Text}
use Rattle.desktop_definitions.specs.declared.viewer.Viewer.{Viewer}
use Rattle.desktop_definitions.specs.Desktop.{DesktopOf, Desktop, file_of}
use Rattle.desktop_definitions.specs.Viewers.{viewer_of, main_of}
use Rattle.desktop_definitions.specs.Effects.{menu_name}

-- ---- texts

abbrev pub looks_alike : Look → Look → Bool
looks_alike a b = (a.font == b.font) && ((a.colour == b.colour) && int_eq a.voff b.voff)

-- whether two characters are the same, with their looks
abbrev pub is_same_character : ℕ × Look → ℕ × Look → Bool
is_same_character c k = (c.0 == k.0) && looks_alike c.1 k.1

-- whether two texts have the same characters
unfoldable pub is_same_text : Text ℕ → Text ℕ → Bool
is_same_text [] [] = true
is_same_text (c ∷ text) (k ∷ other) = is_same_character c k && is_same_text text other
is_same_text [] (k ∷ other) = false
is_same_text (c ∷ text) [] = false

-- ---- what is stored

-- whether a file, where there is one, has this text
abbrev pub is_in_file : Text ℕ → Option (Text ℕ) → Bool
is_in_file text None = false
is_in_file text (Some file) = is_same_text text file

-- whether the file of a name, where one is meant, has a viewer's text
abbrev pub is_stored_as : Desktop → ℕ → Option (List ℕ) → Bool
is_stored_as d v None = false
is_stored_as d v (Some name) = is_in_file (main_of d v) (file_of d name)

-- whether the file has it that the viewer's menu names
abbrev pub is_stored : Desktop → ℕ → Bool
is_stored d v = is_stored_as d v (menu_name d v)

-- ---- what is lost

abbrev pub was_closed : Option ℕ → ℕ → Bool
was_closed None v = false
was_closed (Some w) v = v == w

-- whether a viewer of the table is on the display, isn't v, and shows the text of a number
abbrev pub shows_too : ℕ → ℕ → Option ℕ → ℕ × Viewer → Bool
shows_too v number closed e =
    (e.1.main == number) && (not (e.0 == v) && not (was_closed closed e.0))

module _ {T : Type 0} where
  abbrev pub closed_id : DesktopOf T → Option ℕ
  closed_id d = option_map (λ k. k.viewer) d.closed

  -- whether another viewer on the display shows a viewer's text
  abbrev pub is_shown_too : DesktopOf T → ℕ → Bool
  is_shown_too d v = list_any (shows_too v (viewer_of d v).main (closed_id d)) d.viewers

-- whether it isn't the log, has a character, and is shown by no other viewer
abbrev pub is_single : ℕ → ℕ → Bool → Bool
is_single number long shown_too = not (number == 0) && (nat_lt 0 long && not shown_too)

-- whether a viewer's text is such a one
unfoldable pub is_its_own : Desktop → ℕ → Bool
is_its_own d v = is_single (viewer_of d v).main (length (main_of d v)) (is_shown_too d v)

-- whether it is lost where the viewer is closed
unfoldable pub is_unstored : Desktop → ℕ → Bool
is_unstored d v = is_its_own d v && not (is_stored d v)
