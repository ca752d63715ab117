-- What a command takes: the symbols after its word, the newest selection, and the viewer that is meant.
use Rattle.std.specs.Prelude.{ℕ, ℤ, Bool, if◌then◌else◌, List, Option, Some, None, option_map, Result, Ok}
use Rattle.readers_scanners.specs.declared.symbol.Symbol.{Symbol}
use Rattle.readers_scanners.specs.declared.symbol.Symbol.TheVariants.{Int}
use Rattle.piece_ring.specs.Text.{Text}
use Rattle.viewer_tracks.specs.Columns.{seen_at}
use Rattle.command_table.specs.Parameters.{value_parameter, names, name_in}
use Rattle.desktop_definitions.specs.declared.call.Call.{Call}
use Rattle.desktop_definitions.specs.Limits.{wrong_symbol}
use Rattle.desktop_definitions.specs.Needs.{needs, given}
use Rattle.desktop_definitions.specs.Desktop.{DesktopOf, Desktop}
use Rattle.desktop_definitions.specs.Viewers.{viewer_of, text_in, newest, main_of, menu_of}
use Rattle.desktop_definitions.specs.Change.{bytes_of}

-- the text of a viewer in which a command's word stands: its menu or its main text
abbrev pub text_called : {X : Type 0} → DesktopOf (List X) → ℕ → Bool → List X
text_called d v in_menu =
    text_in d.texts (if in_menu then (viewer_of d v).menu else (viewer_of d v).main)

-- ---- the viewer that is meant

-- the viewer that is seen at the marker
abbrev pub seen_at_marker : {T : Type 0} → DesktopOf T → Option ℕ
seen_at_marker d = elim d.marker [ None ↦ None | Some m ↦ seen_at d.columns m.0 m.1 ]

-- the one in whose menu the word stands, or else the one at the marker
abbrev pub target_viewer : {T : Type 0} → DesktopOf T → Call → Option ℕ
target_viewer d call = if call.in_menu then Some call.viewer else seen_at_marker d

-- ---- the symbols after the word

abbrev pub number_in : Symbol → Option ℤ
number_in (Int z) = Some z
number_in _ = None

-- the text of the newest selection, and where that begins
abbrev pub selection_place : Desktop → Option (Text ℕ × ℕ)
selection_place d = option_map (λ s. (main_of d s.viewer, s.beg)) (newest d)

-- the menu at the marker
abbrev pub menu_at_marker : Desktop → Option (Text ℕ)
menu_at_marker d = option_map (menu_of d) (seen_at_marker d)

unfoldable pub value_of : Desktop → Call → Result Symbol ℕ
value_of d call =
    value_parameter bytes_of (text_called d call.viewer call.in_menu) call.after (selection_place d)
    (menu_at_marker d)

-- a value, where it is a name, and where it is a number
abbrev pub as_name : Result Symbol ℕ → Result (List ℕ) ℕ
as_name told = given told λ symbol. needs (name_in symbol) wrong_symbol λ name. Ok name

abbrev pub as_number : Result Symbol ℕ → Result ℤ ℕ
as_number told = given told λ symbol. needs (number_in symbol) wrong_symbol λ z. Ok z

unfoldable pub name_of : Desktop → Call → Result (List ℕ) ℕ
name_of d call = as_name (value_of d call)

unfoldable pub number_of : Desktop → Call → Result ℤ ℕ
number_of d call = as_number (value_of d call)

-- the names of a list
unfoldable pub names_of : Desktop → Call → Result (List (List ℕ)) ℕ
names_of d call =
    names bytes_of (text_called d call.viewer call.in_menu) call.after (selection_place d)
