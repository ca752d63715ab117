-- The click of the middle button that a press makes, about which it may be asked first.
use Rattle.std.specs.Prelude.{ℕ, List, [], ◌∷◌, Option, Some, None, option_map}
use Rattle.event_bytes.specs.declared.event.Event.{Event}
use Rattle.event_bytes.specs.declared.event.Event.TheVariants as event
use Rattle.event_bytes.specs.declared.keys.Keys.TheVariants.{Middle}
use Rattle.terminal_presses.specs.declared.action.Action.{Action}
use Rattle.terminal_presses.specs.declared.action.Action.TheVariants as action
use Rattle.status_line.specs.declared.clicks.MiddleClick.{MiddleClick}

-- an event, where it is a click of the middle button
abbrev pub middle_click : Event → Option MiddleClick
middle_click (event.Point Middle x0 y0 x1 y1) =
    Some (record { marker = None; from = (x0, y0); to = (x1, y1) })
middle_click e = None

-- and one before which the marker is set to a cell
abbrev pub marked_click : ℕ × ℕ → Event → Option MiddleClick
marked_click cell e = option_map {T = MiddleClick}
    (λ click. record click { marker = Some cell }) (middle_click e)

-- the click by which events call a command, before which the marker may be set
abbrev pub click_in : List Event → Option MiddleClick
click_in (click ∷ []) = middle_click click
click_in (event.Mark x y ∷ click ∷ []) = marked_click (x, y) click
click_in _ = None

-- the click that an event of the hand is
abbrev pub click_posted : Action → Option MiddleClick
click_posted (action.Post event) = middle_click event
click_posted _ = None
