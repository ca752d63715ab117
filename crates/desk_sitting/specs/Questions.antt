-- Questions. A press that would lose something posts nothing and asks; the same press right after it does it.
use Rattle.std.specs.Prelude.{ℕ, Bool, true, false, not, ◌&&◌, if◌then◌else◌, List, Option, Some, None, Result, Ok, Err}
use Rattle.event_bytes.specs.declared.event.Event.{Event}
use Rattle.desktop_definitions.specs.Desktop.{Desktop}
use Rattle.desktop_definitions.specs.Shown.{shown_screen}
use Rattle.desk_journal.specs.Leading.{KeyWish, WhyNot, led}
use Rattle.desk_journal.specs.Losses.{Loss, Closed, Rivalled, Taken, loss_at}
use Rattle.desk_journal.specs.Session.{Session}
use Rattle.desk_journal.specs.Views.{place_at}
use Rattle.done_presses.specs.Again.{has_again}
use Rattle.done_presses.specs.declared.again.StorePlace.{StorePlace}
use Rattle.terminal_presses.specs.declared.action.Action.{Action}
use Rattle.terminal_presses.specs.declared.action.Action.TheVariants as action
use Rattle.status_line.specs.declared.question.Question.{Question}
use Rattle.status_line.specs.declared.question.Question.TheVariants.{Closing, Taking}
use Rattle.status_line.specs.declared.question.Question.TheVariants as question
use Rattle.status_line.specs.declared.saying.Saying.TheVariants.{Asks}
use Rattle.status_line.specs.Question.{asks_to_leave, left_behind}
use Rattle.status_line.specs.Sayings.{is_in_memory}
use Rattle.status_line.specs.declared.clicks.MiddleClick.{MiddleClick}
use Rattle.status_line.specs.Clicks.{click_in, click_posted}
use Rattle.earlier_presses.specs.Twice.{is_nothing, is_of_terminal}
use Rattle.press_tasks.specs.Tasks.{calling_wish}
use Rattle.status_line.specs.Named.{named_question}
use Rattle.desk_sitting.specs.declared.sitting.Sitting.{Sitting}
use Rattle.desk_sitting.specs.Called.{called_cell}
use Rattle.desk_sitting.specs.Stored.{reopening}

-- what is asked about what a command would lose
abbrev pub loss_question : Option Loss → Option Question
loss_question None = None
loss_question (Some (Closed cell)) = Some (Closing cell.0 cell.1)
loss_question (Some (Taken cell)) = Some (Taking cell.0 cell.1)
loss_question (Some (Rivalled cell)) = Some (question.Rivalled cell.0 cell.1)

-- a question, and where there is none another one
abbrev pub or_asked : Option Question → Option Question → Option Question
or_asked None other = other
or_asked (Some question) other = Some question

-- about the word at a cell: what it takes as names, and where nothing is asked about that, a document that it opens once
-- more while its text is open and isn't stored
unfoldable pub named_at : ℕ × ℕ → Desktop → Option Question
named_at to d = or_asked (named_question (shown_screen d) to.0 to.1)
    (reopening (shown_screen d) to d)

-- and about the word that a click calls, if it calls one
abbrev pub named_there : Option (ℕ × ℕ) → Desktop → Option Question
named_there None d = None
named_there (Some cell) d = named_at cell d

unfoldable pub named_by : MiddleClick → Desktop → Option Question
named_by click d = named_there (called_cell (place_at d click.from) click.from click.to) d

-- about a click: what the command would lose that it calls, and where it loses nothing, its word
abbrev pub asked_at : MiddleClick → Desktop → Option Question
asked_at click d = or_asked (loss_question (loss_at d click.marker click.from click.to))
    (named_by click d)

-- the click among the events for what is wished of the caret
abbrev pub click_led : Result (List Event) WhyNot → Option MiddleClick
click_led (Ok events) = click_in events
click_led (Err why) = None

abbrev pub click_by : Option KeyWish → Action → Desktop → Option MiddleClick
click_by None a d = click_posted a
click_by (Some wish) a d = click_led (led d wish)

-- the click of the middle button that a press makes
unfoldable pub click_made : Action → Desktop → Option MiddleClick
click_made a d = click_by (calling_wish a) a d

-- and where a click is made
abbrev pub click_question : Option MiddleClick → Desktop → Option Question
click_question None d = None
click_question (Some click) d = asked_at click d

abbrev pub is_leave : Action → Bool
is_leave action.Leave = true
is_leave _ = false

-- where a store stands
abbrev pub session_place : Session → StorePlace
session_place session = record { epoch = session.epoch; events = session.events }

-- what leaving would lose at this place of the store: a desktop in memory, or what can be done again and is in no past
abbrev pub leaving_loses : StorePlace → Sitting → Option Question
leaving_loses place s =
    left_behind (is_in_memory s.resting) (has_again place s.again && not s.kept)

-- what a press would lose, where leaving would lose that
abbrev pub loss_of : Action → Option Question → Desktop → Option Question
loss_of a left d = if is_leave a then left else click_question (click_made a d) d

-- and what is asked about it, in a sitting that asks
abbrev pub question_of : Action → Sitting → StorePlace → Desktop → Option Question
question_of a s place d = if s.questions then loss_of a (leaving_loses place s) d else None

-- the question is asked: the terminal rings, and the line below says it
abbrev pub questioned : Option Question → Sitting → Sitting
questioned None s = s
questioned (Some question) s =
    record s { question = Some question; saying = Asks question; rings = true }

abbrev pub forgetful : Sitting → Sitting
forgetful s = record s { question = None; saying = s.resting }

-- A question that isn't answered is forgotten, and what was said before is old; but where a press comes to nothing yet, a
-- reason stays, and so does a question about a click, of which a key that says what the next click is and a button that
-- goes down are the beginning. What is done to the terminal alone is no answer.
unfoldable pub unasked : Action → Sitting → Sitting
unasked a s =
    if is_of_terminal a then s else
    (if is_nothing a && not (asks_to_leave s.question) then s else forgetful s)
