-- Presses one after another, and the events that they make.
use Rattle.std.specs.Prelude.{◌≡◌, ℕ, ◌-◌, ◌<◌, ◌≤◌, Bool, true, false, ◌==◌, ◌&&◌, ◌||◌, nat_lt, if◌then◌else◌, List}
use Rattle.std.specs.Prelude.{[], ◌∷◌}
use Rattle.std.specs.Prelude.{◌++◌, length, replicate, Option, Some, None}
use Rattle.std.specs.List.{filter_map}
use Rattle.event_bytes.specs.Bytes.{lies_within, is_text_byte}
use Rattle.event_bytes.specs.declared.event.Event.{Event}
use Rattle.event_bytes.specs.declared.event.Event.TheVariants.{Typed, Mark as MarkAt, Point}
use Rattle.event_bytes.specs.declared.keys.Keys.{Keys as MouseKeys}
use Rattle.event_bytes.specs.declared.keys.Keys.TheVariants.{Left, LeftMiddle, LeftRight, Middle, MiddleLeft}
use Rattle.event_bytes.specs.declared.keys.Keys.TheVariants.{MiddleRight, Right, RightLeft, RightMiddle}
use Rattle.terminal_presses.specs.declared.press.Button.{Button}
use Rattle.terminal_presses.specs.declared.press.Button.TheVariants as button
use Rattle.terminal_presses.specs.declared.press.FunctionKey.{FunctionKey}
use Rattle.terminal_presses.specs.declared.press.FunctionKey.TheVariants.{F1, F2, F3, F4, F5, F6, F7, F8, F9, F10}
use Rattle.terminal_presses.specs.declared.press.FunctionKey.TheVariants.{F11, F12}
use Rattle.terminal_presses.specs.declared.press.MouseReport.{MouseReport}
use Rattle.terminal_presses.specs.declared.press.Press.{Press}
use Rattle.terminal_presses.specs.declared.press.Arrow.{Arrow as ArrowKey}
use Rattle.terminal_presses.specs.declared.press.Arrow.TheVariants as arrow
use Rattle.terminal_presses.specs.declared.press.Press.TheVariants.{Arrow, Function, Mouse, PasteBegins, PasteEnds}
use Rattle.viewer_tracks.specs.declared.display.TheConstants.{COLUMNS, ROWS}
use Rattle.terminal_presses.specs.Pointers.{appears}
use Rattle.terminal_presses.specs.Sights.{Sight, cell_shown, is_in_sight, spot_in}
use Rattle.terminal_presses.specs.declared.action.Click.{Click}
use Rattle.terminal_presses.specs.declared.action.Click.TheVariants.{Mark, Keys}
use Rattle.terminal_presses.specs.declared.action.Action.{Action}
use Rattle.terminal_presses.specs.declared.action.Action.TheVariants.{Post}
use Rattle.terminal_presses.specs.declared.hand.Hand.{Hand}
use Rattle.terminal_presses.specs.declared.spot.Spot.{Spot}
use Rattle.terminal_presses.specs.declared.pointer.Pointer.{Pointer}
use Rattle.terminal_presses.specs.Singles.{single}
use Rattle.terminal_presses.specs.Hands.{handled}
use Rattle.host_names.specs.HostNames.{is_host_byte}

-- ---- runs of presses

-- the hand after presses, while the same rows are in sight
abbrev pub hand_after : Sight → Hand → List Press → Hand
hand_after sight hand [] = hand
hand_after sight hand (press ∷ more) = hand_after sight (handled sight press hand).0 more

abbrev pub events_of_action : Action → List Event
events_of_action (Post event) = event ∷ []
events_of_action _ = []

-- the events that presses make
abbrev pub posted_events : Sight → Hand → List Press → List Event
posted_events sight hand [] = []
posted_events sight hand (press ∷ more) =
    events_of_action (handled sight press hand).1
    ++ posted_events sight (handled sight press hand).0 more

-- the presses lead from one hand to the other, and make these events
pub record MakesEvents (sight : Sight) (hand : Hand) (presses : List Press) (next : Hand)
    (events : List Event) : Type 0 where
  pub hand_is : hand_after sight hand presses ≡ next
  pub events_are : posted_events sight hand presses ≡ events

-- ---- buttons

-- a column and a row of the terminal
pub record Corner : Type 0 where
  pub column : ℕ
  pub row : ℕ

-- whether they show a cell of the display
abbrev pub is_seen : Sight → Corner → Bool
is_seen sight at = is_in_sight sight at.column at.row

-- that cell, where they show one
abbrev pub seen_spot : Sight → Corner → Option Spot
seen_spot sight at = cell_shown sight at.column at.row

-- what is pointed at once the mouse has told them
abbrev pub mouse_at : Sight → Corner → Pointer → Pointer
mouse_at sight at pointer = record pointer { mouse = seen_spot sight at }

-- the cell of the display that they mean
abbrev pub spot_at : Sight → Corner → Spot
spot_at sight at = spot_in sight at.column at.row

-- a button goes down or up, with the keys Shift, Alt and Ctrl or without them
abbrev pub report_with : Bool → Bool → Bool → Bool → Button → Corner → MouseReport
report_with down shift alt control button at = record {
  button = button;
  is_down = down;
  with_shift = shift;
  with_alt = alt;
  with_control = control;
  column = at.column;
  row = at.row;
}

abbrev pub moved_with : Bool → Bool → Bool → Bool → Button → Corner → Press
moved_with down shift alt control button at =
    Mouse (report_with down shift alt control button at)

abbrev pub down_with : Bool → Bool → Button → Corner → Press
down_with alt control button at = moved_with true false alt control button at

abbrev pub down : Button → Corner → Press
down button at = down_with false false button at

abbrev pub up_with : Bool → Bool → Bool → Button → Corner → Press
up_with shift alt control button at = moved_with false shift alt control button at

abbrev pub up : Button → Corner → Press
up button at = up_with false false false button at

abbrev pub button_alone : Button → MouseKeys
button_alone button.Left = Left
button_alone button.Middle = Middle
button_alone button.Right = Right

-- a button and another one, in the order in which they go down
abbrev pub together : Button → Button → MouseKeys
together button.Left button.Left = Left
together button.Left button.Middle = LeftMiddle
together button.Left button.Right = LeftRight
together button.Middle button.Left = MiddleLeft
together button.Middle button.Middle = Middle
together button.Middle button.Right = MiddleRight
together button.Right button.Left = RightLeft
together button.Right button.Middle = RightMiddle
together button.Right button.Right = Right

-- the event of a click that begins and ends at these cells of the terminal
abbrev pub click_event : Click → Sight → Corner → Corner → Event
click_event Mark sight start end = MarkAt (spot_at sight start).x (spot_at sight start).y
click_event (Keys keys) sight start end =
    Point keys (spot_at sight start).x (spot_at sight start).y (spot_at sight end).x
    (spot_at sight end).y

-- the click that a function key says
abbrev pub says : FunctionKey → Option Click
says F1 = Some Mark
says F2 = Some (Keys Middle)
says F3 = Some (Keys Right)
says F4 = Some (Keys LeftMiddle)
says F5 = Some (Keys LeftRight)
says F6 = Some (Keys RightLeft)
says F7 = Some (Keys RightMiddle)
says F8 = None
says F9 = None
says F10 = None
says F11 = None
says F12 = Some (Keys Left)

-- ---- keys that point

-- a cell of the display
pub record IsOnDisplay (at : Spot) : Type 0 where
  pub column : at.x < COLUMNS
  pub row : at.y < ROWS

-- an arrow, so many arrow_times
abbrev pub arrow_times : ℕ → ArrowKey → List Press
arrow_times n key = replicate n (Arrow key)

-- the arrows that lead from a cell to another one
abbrev pub keys_to : Spot → Spot → List Press
keys_to from to =
    arrow_times (to.x - from.x) arrow.Right
    ++ (arrow_times (from.x - to.x) arrow.Left
    ++ (arrow_times (to.y - from.y) arrow.Up ++ arrow_times (from.y - to.y) arrow.Down))

-- the pointer is shown, where it isn't, and goes to a cell
abbrev pub pointing_to : Sight → Pointer → Spot → List Press
pointing_to sight pointer at = Function F11 ∷ keys_to (appears sight pointer) at

-- and then from there to another one, with a function key before, and a last press
abbrev pub drawing_by : FunctionKey → Press → Sight → Pointer → Spot → Spot → List Press
drawing_by key last sight pointer start end =
    pointing_to sight pointer start ++ Function key ∷ (keys_to start end ++ last ∷ [])

-- the event of a click from a cell to another one; the marker is set at the last
abbrev pub drawn_event : Click → Spot → Spot → Event
drawn_event Mark start end = MarkAt end.x end.y
drawn_event (Keys keys) start end = Point keys start.x start.y end.x end.y

-- what is pointed at then
abbrev pub drawn_pointer : Spot → Spot → Pointer → Pointer
drawn_pointer start end pointer = record pointer { shown = Some end; start = Some start }

-- three buttons, in some order
pub record AreThree (a b c : Button) : Type 0 where
  pub first_two : a ≡ b → ⊥
  pub last_two : b ≡ c → ⊥
  pub ends : a ≡ c → ⊥

-- ---- pastes

-- a byte of a text as it is pasted: a line feed and those that can be typed are themselves, and another one is a
-- question mark; those that go on with a character of several bytes are part of its question mark
abbrev pub typed_byte : ℕ → Option ℕ
typed_byte b =
    if (b == 10) || is_text_byte b then Some b
    else (if lies_within 128 191 b then None else Some 63)

-- lines end with carriage returns: a line feed is one, but nothing right after one
abbrev pub line_ends : Bool → List ℕ → List ℕ
line_ends after_return [] = []
line_ends after_return (b ∷ bs) =
    if b == 10 then (if after_return then line_ends false bs else 13 ∷ line_ends false bs) else
    b ∷ line_ends (b == 13) bs

-- what is typed of a text that is pasted
abbrev pub pasted_text : List ℕ → List ℕ
pasted_text text = line_ends false (filter_map typed_byte text)

-- what is pressed for it: each of its bytes as it is by itself
abbrev pub paste_of : List ℕ → List Press
paste_of text = PasteBegins ∷ filter_map single text ++ PasteEnds ∷ []

-- the events type the text, each 900 bytes of it, but the last 1 to 900
abbrev pub Types : List Event → List ℕ → Type 0
Types [] text = text ≡ []
Types (event ∷ []) text = (event ≡ Typed text) × (1 ≤ length text) × (length text ≤ 900)
Types (event ∷ next ∷ events) text =
    (front : List ℕ) × (rest : List ℕ) × (event ≡ Typed front) × (length front ≡ 900)
    × (text ≡ front ++ rest)
    × Types (next ∷ events) rest

-- a name and the bytes of a text that is pasted behind it, as far as they can stand in a name and there is room
abbrev pub name_byte : List ℕ → ℕ → List ℕ
name_byte name b = if is_host_byte b && nat_lt (length name) 255 then name ++ b ∷ [] else name

abbrev pub name_with : List ℕ → List ℕ → List ℕ
name_with name [] = name
name_with name (b ∷ text) = name_with (name_byte name b) text
