-- Gestures of the mouse: from the first button that goes down to the last that goes up.
use Rattle.std.specs.Prelude.{Bool, true, false, ◌||◌, not, Option, Some, None}
use Rattle.event_bytes.specs.declared.event.Event.TheVariants.{Mark as MarkAt, Point}
use Rattle.event_bytes.specs.declared.keys.Keys.{Keys as MouseKeys}
use Rattle.event_bytes.specs.declared.keys.Keys.TheVariants.{Left, LeftMiddle, LeftRight, Middle, MiddleLeft}
use Rattle.event_bytes.specs.declared.keys.Keys.TheVariants.{MiddleRight, Right, RightLeft, RightMiddle}
use Rattle.terminal_presses.specs.declared.press.Button.{Button}
use Rattle.terminal_presses.specs.declared.press.Button.TheVariants as button
use Rattle.terminal_presses.specs.declared.spot.Spot.{Spot}
use Rattle.terminal_presses.specs.declared.action.Click.{Click}
use Rattle.terminal_presses.specs.declared.action.Click.TheVariants.{Mark, Keys}
use Rattle.terminal_presses.specs.declared.action.Action.{Action}
use Rattle.terminal_presses.specs.declared.action.Action.TheVariants.{Nothing, Post}
use Rattle.terminal_presses.specs.declared.gesture.Buttons.{Buttons}
use Rattle.terminal_presses.specs.declared.gesture.Gesture.{Gesture}

-- the one of three values that stands for a button
abbrev pub by_button : {A : Type 0} → Button → A → A → A → A
by_button button.Left left middle right = left
by_button button.Middle left middle right = middle
by_button button.Right left middle right = right

-- ---- the buttons that are down

abbrev pub no_buttons : Buttons
no_buttons = record { left = false; middle = false; right = false }

abbrev pub is_none_down : Buttons → Bool
is_none_down down = not (down.left || (down.middle || down.right))

abbrev pub is_down : Button → Buttons → Bool
is_down button down = by_button button down.left down.middle down.right

abbrev pub with_button : Button → Bool → Buttons → Buttons
with_button button.Left is down = record down { left = is }
with_button button.Middle is down = record down { middle = is }
with_button button.Right is down = record down { right = is }

-- ---- the keys of a gesture

-- with a button more, in the order in which they went down; a third one calls the gesture off
unfoldable pub keys_with_button : Button → MouseKeys → Option MouseKeys
keys_with_button another Left = Some (by_button another Left LeftMiddle LeftRight)
keys_with_button another Middle = Some (by_button another MiddleLeft Middle MiddleRight)
keys_with_button another Right = Some (by_button another RightLeft RightMiddle Right)
keys_with_button another LeftMiddle = by_button another (Some LeftMiddle) (Some LeftMiddle) None
keys_with_button another MiddleLeft = by_button another (Some MiddleLeft) (Some MiddleLeft) None
keys_with_button another LeftRight = by_button another (Some LeftRight) None (Some LeftRight)
keys_with_button another RightLeft = by_button another (Some RightLeft) None (Some RightLeft)
keys_with_button another MiddleRight = by_button another None (Some MiddleRight) (Some MiddleRight)
keys_with_button another RightMiddle = by_button another None (Some RightMiddle) (Some RightMiddle)

abbrev pub as_click : Option MouseKeys → Option Click
as_click None = None
as_click (Some keys) = Some (Keys keys)

-- what a gesture comes to in which another button goes down; none sets the marker and has two buttons
unfoldable pub click_called : Button → Option Click → Option Click
click_called another None = None
click_called another (Some Mark) = None
click_called another (Some (Keys keys)) = as_click (keys_with_button another keys)

-- ---- gestures

unfoldable pub pressed_more : Button → Gesture → Gesture
pressed_more another gesture = record {
  click = click_called another gesture.click;
  start = gesture.start;
  down = with_button another true gesture.down;
}

unfoldable pub released : Button → Gesture → Gesture
released one gesture = record gesture { down = with_button one false gesture.down }

-- what comes of it when the last button goes up
unfoldable pub released_at : Option Click → Spot → Spot → Action
released_at None start end = Nothing
released_at (Some Mark) start end = Post (MarkAt start.x start.y)
released_at (Some (Keys keys)) start end = Post (Point keys start.x start.y end.x end.y)
