-- What holds of all presses.
use Rattle.std.specs.Prelude.{◌≡◌, ℕ, Bool, true, false, ◌&&◌, not, List, [], Option, Some, All, IfSome, is_some, option_map}
use Rattle.sector_disk.specs.declared.disk.Disk.{Ghosts}
use Rattle.event_bytes.specs.declared.event.Event.{Event}
use Rattle.desktop_definitions.specs.Step.{steps}
use Rattle.terminal_presses.specs.declared.press.Press.{Press}
use Rattle.terminal_presses.specs.declared.action.Action.{Action}
use Rattle.terminal_presses.specs.declared.action.Action.TheVariants as action
use Rattle.status_line.specs.declared.clicks.MiddleClick.{MiddleClick}
use Rattle.status_line.specs.Clicks.{middle_click}
use Rattle.press_tasks.specs.Tasks.{calling_wish}
use Rattle.desk_journal.specs.View.{StoreView}
use Rattle.desk_past.specs.Deeds.{PastDeed}
use Rattle.past_pages.specs.Reading.{IsOnlyReadFrom}
use Rattle.past_steps.specs.Steps.{IsSteppedBack, IsTurnedBack}
use Rattle.desk_sitting.specs.Desk.{Seat, accepted_events, after_presses}
use Rattle.desk_sitting.specs.Questions.{click_made}
use Rattle.desk_sitting.specs.Sittings.{accepted_as, accepted_of, after_press, asks_first, meant_by, with_question}
use Rattle.desk_sitting.specs.TheDesk.{the_desk}
use Rattle.desk_sitting.specs.Travels.{is_turn, store_place}

-- presses lead to the desktop to which the events lead that are accepted of them
abbrev pub PressesAreSteps : Type 0
PressesAreSteps = (presses : List Press) (seat : Seat)
    → (after_presses the_desk presses seat).session.desktop
    ≡ steps seat.session.desktop (accepted_events the_desk presses seat)

-- ---- questions

-- a press asks a question
abbrev pub asks_by : Press → Seat → Bool
asks_by press seat = not seat.sitting.leaves
    && asks_first (meant_by press seat.sitting).1 seat

-- A press that asks posts nothing, and leaves what it is asked about as it is.
abbrev pub QuestionsPostNothing : Type 0
QuestionsPostNothing = (press : Press) (seat : Seat) → asks_by press seat ≡ true
    → (accepted_of press seat ≡ []) × ((after_press press seat).session ≡ seat.session)
    × ((after_press press seat).sitting.leaves ≡ false)

-- It is asked once: what would lose something does it where it comes right after its question.
abbrev pub QuestionsComeOnce : Type 0
QuestionsComeOnce = (a : Action) (seat : Seat) → asks_first a seat ≡ true
    → asks_first a (with_question a seat) ≡ false

-- ---- clicks of the middle button

abbrev pub ends_of : MiddleClick → (ℕ × ℕ) × (ℕ × ℕ)
ends_of click = (click.from, click.to)

-- an event is no such click, or it's the one that was told
abbrev pub IsClickTold : Option MiddleClick → Event → Type 0
IsClickTold told event =
    IfSome (middle_click event) (λ click. option_map ends_of told ≡ Some (ends_of click))

-- whether a press makes such a click by itself; the presses that scroll are clicks in the bar of a viewer, and call
-- nothing
abbrev pub is_clicking : Action → Bool
is_clicking (action.Post event) = true
is_clicking action.Mark = true
is_clicking a = is_some (calling_wish a)

-- Each of them that is accepted of such a press is the one about which it is asked.
abbrev pub ClicksAreTold : Type 0
ClicksAreTold = (a : Action) (seat : Seat) → is_clicking a ≡ true
    → All (IsClickTold (click_made a seat.session.desktop)) (accepted_as a seat)

-- ---- steps back

module _ {D : Type 0} (d : Ghosts D) where
  -- A step back that leads to a later epoch is a turn, over which a past goes on.
  abbrev pub LaterStepsAreTurns : Type 0
  LaterStepsAreTurns = (count : ℕ) (deeds : List PastDeed) (old new : StoreView D)
      → IsSteppedBack d count deeds old new → is_turn (store_place old) (store_place new) ≡ true
      → (between : StoreView D) × IsOnlyReadFrom d old between
      × IsTurnedBack d count deeds between new
