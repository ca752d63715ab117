-- A part of a paste comes whole: all of it is typed, or left to be typed.
use Rattle.std.specs.Prelude.{◌≡◌, ℕ, true, List, [], ◌∷◌, ◌++◌, Option, Some}
use Rattle.event_bytes.specs.Bytes.{is_typed_bytes}
use Rattle.event_bytes.specs.declared.event.Event.{Event}
use Rattle.event_bytes.specs.declared.event.Event.TheVariants.{Typed}
use Rattle.desktop_definitions.specs.Desktop.{Desktop}
use Rattle.filled_pastes.specs.Poured.{HasEnds}
use Rattle.press_tasks.specs.declared.task.Task.{Task}
use Rattle.press_tasks.specs.declared.task.Task.TheVariants.{Post, Pour}
use Rattle.press_tasks.specs.declared.task.Stage.TheVariants.{On}
use Rattle.press_plans.specs.Plans.{Plan, Events, pour_plan}

-- what events type, one after another, and what is typed by what is left to do
abbrev pub typed_in : Event → List ℕ
typed_in (Typed bytes) = bytes
typed_in event = []

abbrev pub all_typed : List Event → List ℕ
all_typed [] = []
all_typed (event ∷ events) = typed_in event ++ all_typed events

abbrev pub left_to_type : Option Task → List ℕ
left_to_type (Some (Post event)) = typed_in event
left_to_type (Some (Pour stage bytes typed)) = bytes
left_to_type _ = []

abbrev pub typed_by : Plan → List ℕ
typed_by (Events events next) = all_typed events ++ left_to_type next
typed_by plan = []

-- A part that is typed from where the caret stands is what is typed by its plan, but for ends of lines that come into it.
abbrev pub PartsComeWhole : Type 0
PartsComeWhole = (bytes : List ℕ) (typed : ℕ) (d : Desktop) → is_typed_bytes bytes ≡ true
    → HasEnds bytes (typed_by (pour_plan On bytes typed d))
