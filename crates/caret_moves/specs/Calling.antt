-- Commands that are called by a key: on the viewer of the caret, and by the caret's line.
use Rattle.std.specs.Prelude.{ℕ, zero, suc, ◌+◌, ◌-◌, ◌*◌, ◌/◌, ◌%◌, ◌==◌, min, Bool, true, false, if◌then◌else◌}
use Rattle.std.specs.Prelude.{List, [], ◌∷◌, Option, Some, None, is_some, option_map, Result, Ok, Err}
use Rattle.event_bytes.specs.declared.keys.Keys.TheVariants.{Middle}
use Rattle.event_bytes.specs.declared.event.Event.{Event}
use Rattle.event_bytes.specs.declared.event.Event.TheVariants.{Mark, Point}
use Rattle.viewer_tracks.specs.declared.display.TheConstants.{COLUMNS, ROWS}
use Rattle.viewer_tracks.specs.Columns.{placed_bottom, placed_top}
use Rattle.command_table.specs.declared.command.Command.{Command}
use Rattle.command_table.specs.declared.command.Command.TheVariants.{EditStore, EditSearch}
use Rattle.text_frames.specs.Lines.{line_start}
use Rattle.desktop_definitions.specs.Limits.{newest_version}
use Rattle.desktop_definitions.specs.declared.region.Region.{Region}
use Rattle.desktop_definitions.specs.declared.region.Region.TheVariants.{Menu, Body}
use Rattle.desktop_definitions.specs.Desktop.{DesktopOf, Desktop}
use Rattle.desktop_definitions.specs.Change.{bytes_of}
use Rattle.desktop_definitions.specs.declared.call.ViewerCommand.{ViewerCommand}
use Rattle.desktop_definitions.specs.declared.call.ViewerCommand.TheVariants as viewer
use Rattle.desktop_definitions.specs.Call.{text_called}
use Rattle.desktop_definitions.specs.Commands.{command_at, done_with_viewer}
use Rattle.desktop_definitions.specs.Gesture.{left, region_at, menu_position, text_position}
use Rattle.desktop_definitions.specs.Step.{marked}
use Rattle.caret_moves.specs.declared.wish.CaretCommand.{CaretCommand}
use Rattle.caret_moves.specs.declared.wish.CaretCommand.TheVariants.{Search, Store}
use Rattle.caret_moves.specs.declared.wish.WhyNot.{WhyNot}
use Rattle.caret_moves.specs.declared.wish.WhyNot.TheVariants.{NoWord}
use Rattle.caret_moves.specs.Steps.{end_of_line}

-- the least of n numbers from p on that passes a test
unfoldable pub first_where : (ℕ → Bool) → ℕ → ℕ → Option ℕ
first_where test p zero = None
first_where test p (suc n) = if test p then Some p else first_where test (p + 1) n

-- the middle button is pressed at a cell
abbrev pub middle_press : ℕ × ℕ → Event
middle_press cell = Point Middle cell.0 cell.1 cell.0 cell.1

-- ---- on the viewer of the caret

-- what a command does on a viewer
abbrev pub viewer_command : CaretCommand → ViewerCommand
viewer_command Search = viewer.Search
viewer_command Store = viewer.Store

abbrev pub done_on : Desktop → CaretCommand → ℕ → Result Desktop ℕ
done_on d command v = done_with_viewer d (viewer_command command) v

-- whether a word is that of the command
abbrev pub is_search : Command → Bool
is_search EditSearch = true
is_search _ = false

abbrev pub is_store : Command → Bool
is_store EditStore = true
is_store _ = false

unfoldable pub is_word_of : CaretCommand → Command → Bool
is_word_of Search word = is_search word
is_word_of Store word = is_store word

abbrev pub is_word_found : CaretCommand → Option (Command × ℕ) → Bool
is_word_found command None = false
is_word_found command (Some found) = is_word_of command found.0

-- whether the word at a position of a viewer's menu or main text is
unfoldable pub calls : Desktop → ℕ → Bool → CaretCommand → ℕ → Bool
calls d v in_menu command p =
    is_word_found command (command_at newest_version (bytes_of (text_called d v in_menu)) p)

-- whether the middle button calls it at a cell of a region: in the menu of a viewer, or in any text
abbrev pub calls_in_menu : Desktop → CaretCommand → ℕ → ℕ × ℕ → Region → Bool
calls_in_menu d command v cell (Menu u) =
    if u == v then calls d v true command (menu_position d v cell.0) else false
calls_in_menu d command v cell region = false

abbrev pub calls_in_text : Desktop → CaretCommand → ℕ × ℕ → Region → Bool
calls_in_text d command cell (Body u) =
    calls d u false command (text_position d u cell.0 cell.1)
calls_in_text d command cell region = false

abbrev pub calls_in : Desktop → CaretCommand → Option ℕ → ℕ × ℕ → Region → Bool
calls_in d command None cell region = calls_in_text d command cell region
calls_in d command (Some v) cell region = calls_in_menu d command v cell region

-- cells by their numbers: the lowest row first, and each row from the left
abbrev pub cell_numbered : ℕ → ℕ × ℕ
cell_numbered n = (n % COLUMNS, n / COLUMNS)

unfoldable pub calls_at : Desktop → CaretCommand → Option ℕ → ℕ × ℕ → Bool
calls_at d command place cell = calls_in d command place cell (region_at d cell.0 cell.1)

-- the first such cell, where there is one
unfoldable pub word_number : Desktop → CaretCommand → Option ℕ → Option ℕ
word_number d command place =
    first_where (λ n. calls_at d command place (cell_numbered n)) 0 (COLUMNS * ROWS)

abbrev pub word_cell : Desktop → CaretCommand → Option ℕ → Option (ℕ × ℕ)
word_cell d command place = option_map cell_numbered (word_number d command place)

module _ {T : Type 0} where
  -- the cell in the middle of the leftmost column of a viewer
  abbrev pub mark_cell : DesktopOf T → ℕ → ℕ × ℕ
  mark_cell d v = (left d v, (placed_bottom d.columns v + placed_top d.columns v - 1) / 2)

  -- the viewer has the marker
  abbrev pub marked_in : DesktopOf T → ℕ → DesktopOf T
  marked_in d v = let cell = mark_cell d v in marked d cell.0 cell.1

  -- the marker is set, and then the middle button pressed at a cell
  abbrev pub marked_call : DesktopOf T → ℕ → ℕ × ℕ → List Event
  marked_call d v cell = let at = mark_cell d v in Mark at.0 at.1 ∷ middle_press cell ∷ []

  -- The events by the words that were found: a click in the menu, or in another text after the marker is set. And the
  -- desktop over which the click comes.
  abbrev pub call_by : DesktopOf T → ℕ → Option (ℕ × ℕ) → Option (ℕ × ℕ)
      → Result (List Event) WhyNot
  call_by d v (Some cell) other = Ok (middle_press cell ∷ [])
  call_by d v None (Some cell) = Ok (marked_call d v cell)
  call_by d v None None = Err NoWord

  abbrev pub called_over : DesktopOf T → ℕ → Option (ℕ × ℕ) → DesktopOf T
  called_over d v (Some cell) = d
  called_over d v None = marked_in d v

-- the events that call a command on a viewer: by its menu, or where that doesn't show the word by another text
unfoldable pub call_led : Desktop → ℕ → CaretCommand → Result (List Event) WhyNot
call_led d v command =
    call_by d v (word_cell d command (Some v)) (word_cell d command None)

-- the desktop over which it is called
unfoldable pub call_desktop : Desktop → ℕ → CaretCommand → Desktop
call_desktop d v command = called_over d v (word_cell d command (Some v))

-- ---- by the line of the caret

abbrev pub is_called : List ℕ → ℕ → Bool
is_called bs p = is_some (command_at newest_version bs p)

-- the word that is called from p: the one there, or the first of its line, in the first w characters
unfoldable pub line_word : List ℕ → ℕ → ℕ → Option ℕ
line_word bs w p = if is_called bs p then Some p
    else first_where (is_called bs) (line_start bs p) (min w (end_of_line bs p - line_start bs p))
