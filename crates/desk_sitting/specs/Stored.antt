-- Whether a text that is open is stored, as far as the menu of its viewer is seen.
use Rattle.std.specs.Prelude.{ℕ, ◌-◌, ◌==◌, ◌&&◌, Bool, false, if◌then◌else◌, List, Option, Some, None}
use Rattle.screen_pictures.specs.declared.cell.Cell.{Cell}
use Rattle.desktop_definitions.specs.Desktop.{Desktop}
use Rattle.desktop_definitions.specs.Shown.{shown_screen}
use Rattle.desk_journal.specs.Losses.{Loss, Closed, loss_at}
use Rattle.desk_journal.specs.Views.{Place}
use Rattle.press_plans.specs.Plans.{caret_place}
use Rattle.status_line.specs.Opened.{closing_cell, menu_reopened}
use Rattle.status_line.specs.declared.question.Question.{Question}
use Rattle.status_line.specs.declared.question.Question.TheVariants.{Reopening}

-- whether a viewer's text would be lost by closing it whose menu begins at a cell
abbrev pub is_closed_at : ℕ × ℕ → Option Loss → Bool
is_closed_at at (Some (Closed cell)) = (cell.0 == at.0) && (cell.1 == at.1)
is_closed_at at _ = false

-- That text isn't stored: the word that closes the viewer, called behind the name in its menu, would lose it. Neither the
-- document of that name nor another viewer has it.
unfoldable pub names_unstored : List (List Cell) → ℕ × ℕ → Desktop → Bool
names_unstored screen at d =
    is_closed_at at (loss_at d None (closing_cell screen at) (closing_cell screen at))

-- the menu of a viewer that stands there, where its text isn't stored
abbrev pub menu_begin : Place → ℕ × ℕ
menu_begin place = (place.x, place.top - 1)

abbrev pub unstored_at : Option Place → List (List Cell) → Desktop → Option (ℕ × ℕ)
unstored_at None screen d = None
unstored_at (Some place) screen d =
    if names_unstored screen (menu_begin place) d then Some (menu_begin place) else None

-- and that of the viewer with the caret
unfoldable pub unstored_caret : Desktop → Option (ℕ × ℕ)
unstored_caret d = unstored_at (caret_place d) (shown_screen d) d

-- what is asked where a document is opened of whose name a viewer is open: the menu of that begins at a cell
abbrev pub open_question : Option (ℕ × ℕ) → List (List Cell) → Desktop → Option Question
open_question None screen d = None
open_question (Some at) screen d =
    if names_unstored screen at d then Some (Reopening at.0 at.1) else None

-- and about the word at a cell
unfoldable pub reopening : List (List Cell) → ℕ × ℕ → Desktop → Option Question
reopening screen to d = open_question (menu_reopened screen to.0 to.1) screen d
