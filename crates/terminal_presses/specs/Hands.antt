-- What presses come to.
use Rattle.std.specs.Prelude.{ℕ, Bool, true, false, ◌==◌, ◌&&◌, ◌||◌, not, if◌then◌else◌, List, [], ◌∷◌}
use Rattle.std.specs.Prelude.{Option, Some, None, is_some, option_map, unwrap_or}
use Rattle.event_bytes.specs.Bytes.{tabulator}
use Rattle.event_bytes.specs.declared.event.Event.{Event}
use Rattle.event_bytes.specs.declared.event.Event.TheVariants.{Key, Point}
use Rattle.event_bytes.specs.declared.keys.Key.TheVariants as key
use Rattle.event_bytes.specs.declared.keys.Keys.TheVariants as keys
use Rattle.terminal_presses.specs.declared.press.Button.{Button}
use Rattle.terminal_presses.specs.declared.press.Button.TheVariants.{Left, Middle, Right}
use Rattle.terminal_presses.specs.declared.press.FunctionKey.{FunctionKey}
use Rattle.terminal_presses.specs.declared.press.FunctionKey.TheVariants.{F1, F2, F3, F4, F5, F6, F7, F8, F9, F10}
use Rattle.terminal_presses.specs.declared.press.FunctionKey.TheVariants.{F11, F12}
use Rattle.event_bytes.specs.Keys.{keys_number}
use Rattle.terminal_presses.specs.declared.press.Arrow.{Arrow as ArrowKey}
use Rattle.terminal_presses.specs.declared.press.Scroll.{Scroll as ScrollKey}
use Rattle.terminal_presses.specs.declared.press.Scroll.TheVariants.{WheelUp, WheelDown, PageUp, PageDown, First, Last}
use Rattle.terminal_presses.specs.declared.press.MouseReport.{MouseReport}
use Rattle.terminal_presses.specs.declared.press.WheelReport.{WheelReport}
use Rattle.terminal_presses.specs.declared.press.Press.{Press}
use Rattle.terminal_presses.specs.declared.press.Press.TheVariants.{Character, Foreign, Control, Back, Delete, Escape}
use Rattle.terminal_presses.specs.declared.press.Press.TheVariants.{Arrow}
use Rattle.terminal_presses.specs.declared.press.Press.TheVariants.{Page, Function, Mouse, PasteBegins, PasteEnds, Size}
use Rattle.terminal_presses.specs.declared.press.Press.TheVariants.{Leap, Scroll, Wheel, FileFails, Unknown}
use Rattle.terminal_presses.specs.Sights.{Sight, cell_shown, is_in_sight, spot_in}
use Rattle.terminal_presses.specs.declared.spot.Spot.{Spot}
use Rattle.terminal_presses.specs.declared.action.Click.{Click}
use Rattle.terminal_presses.specs.declared.action.Click.TheVariants.{Mark, Keys}
use Rattle.terminal_presses.specs.declared.pointer.Pointer.{Pointer}
use Rattle.terminal_presses.specs.declared.pointer.TheConstants.{LEAP}
use Rattle.terminal_presses.specs.declared.action.Action.{Action}
use Rattle.terminal_presses.specs.declared.action.Action.TheVariants.{Nothing, Post, Ring, LookAnew, Leave, Undo, Redo}
use Rattle.terminal_presses.specs.declared.action.Action.TheVariants.{Search, SearchBefore, Store, Replace, Fill, Seek}
use Rattle.terminal_presses.specs.declared.action.Action.TheVariants.{Move, Step, CallLine, Fit, FileFailed}
use Rattle.terminal_presses.specs.declared.action.Action.TheVariants.{Select, SelectAll, CutLine, Refill, Extend}
use Rattle.terminal_presses.specs.declared.action.Action.TheVariants as action
use Rattle.terminal_presses.specs.declared.gesture.Gesture.{Gesture}
use Rattle.terminal_presses.specs.declared.paste.Paste.{Paste}
use Rattle.terminal_presses.specs.declared.asks.Asks.{Asks}
use Rattle.terminal_presses.specs.declared.asks.Asks.TheVariants as asked_for
use Rattle.terminal_presses.specs.declared.hand.Hand.{Hand}
use Rattle.terminal_presses.specs.declared.hand.TheConstants.{CONTROL_C, CONTROL_E, CONTROL_F, CONTROL_G, CONTROL_L}
use Rattle.terminal_presses.specs.declared.hand.TheConstants.{CONTROL_A, CONTROL_B, CONTROL_K}
use Rattle.terminal_presses.specs.declared.hand.TheConstants.{CONTROL_O, CONTROL_Q}
use Rattle.terminal_presses.specs.declared.hand.TheConstants.{CONTROL_R, CONTROL_S, CONTROL_T, CONTROL_U, CONTROL_V, CONTROL_W}
use Rattle.terminal_presses.specs.declared.hand.TheConstants.{CONTROL_X, CONTROL_Y, CONTROL_Z}
use Rattle.terminal_presses.specs.Gestures.{no_buttons, is_none_down, is_down, with_button, pressed_more, released}
use Rattle.terminal_presses.specs.Gestures.{released_at}
use Rattle.terminal_presses.specs.Pointers.{nowhere, moved_to, laid_aside, toggled, started, spot_moved, begins_at}
use Rattle.terminal_presses.specs.Pointers.{pointed_cell, unpointed}
use Rattle.terminal_presses.specs.Asking.{Asked, answered, answered_words, is_no_digit, line_meant, pasted_name}
use Rattle.terminal_presses.specs.Asking.{pasted_words}
use Rattle.terminal_presses.specs.Pastes.{line_feed, return, typing_action, new_paste, dropped, pasted_on}

-- a hand with which nothing is under way, and where it points
abbrev pub resting : Pointer → Hand
resting pointer = record {
  armed = None;
  gesture = None;
  paste = None;
  asked = None;
  asks = asked_for.File;
  pointer = pointer;
}

-- the hand that has pressed nothing
abbrev pub new_hand : Hand
new_hand = resting nowhere

-- a hand that isn't amid a paste, nor amid an answer
abbrev pub idle : Hand → Hand
idle hand = record hand { paste = None; asked = None; asks = asked_for.File }

-- a hand of which a name is asked for, as far as it is typed
abbrev pub asking : List ℕ → Hand → Hand
asking name hand = record hand { paste = None; asked = Some name; asks = asked_for.File }

-- ---- keys

-- what Ctrl comes to with A, B, C, E, F, J, K, L, Q, R, S, T, U, V, W, X, Y and Z; another letter rings
unfoldable pub control : ℕ → Action
control b =
    if b == CONTROL_A then SelectAll else
    (if b == CONTROL_B then SearchBefore else
    (if b == CONTROL_C then Post (Key key.Copy) else
    (if b == CONTROL_E then CallLine else
    (if b == CONTROL_F then Search else
    (if b == line_feed then typing_action (return ∷ []) else
    (if b == CONTROL_K then CutLine else
    (if b == CONTROL_L then LookAnew else
    (if b == CONTROL_Q then Leave else
    (if b == CONTROL_R then Replace else
    (if b == CONTROL_S then Store else
    (if b == CONTROL_T then action.Mark else
    (if b == CONTROL_U then Refill else
    (if b == CONTROL_V then Post (Key key.Paste) else
    (if b == CONTROL_W then Fill else
    (if b == CONTROL_X then Post (Key key.Cut) else
    (if b == CONTROL_Y then Redo else
    (if b == CONTROL_Z then Undo else Ring)))))))))))))))))

-- Where a function key has said what the next click is, the click is what it says by itself again, and no more. Else a
-- pointer that is shown is put away, and no more.
unfoldable pub hand_after_escape : Hand → Hand × Action
hand_after_escape hand =
    if is_some hand.armed then (record hand { armed = None }, Nothing) else
    (if is_some hand.pointer.shown then (record hand { pointer = laid_aside hand.pointer }, Nothing)
    else (hand, Post (Key key.Escape)))

-- that is asked for
abbrev pub hand_asking : Asks → Hand → Hand
hand_asking what hand = record hand { asked = Some []; asks = what }

-- the words that are sought behind the caret, or before it
abbrev pub words_asked : Bool → Asks
words_asked before = if before then asked_for.WordsBefore else asked_for.Words

abbrev pub asks_for : Asks → Hand → Hand × Action
asks_for what hand = (hand_asking what hand, Nothing)

-- Ctrl-G asks for a line, and Ctrl-O for a name
unfoldable pub controlled : ℕ → Hand → Hand × Action
controlled b hand = if b == CONTROL_G then asks_for asked_for.Line hand
    else (if b == CONTROL_O then asks_for asked_for.File hand else (hand, control b))

-- what a click is that a key makes: what a function key has said, and else that of the left button
abbrev pub click_by_key : Option Click → Click
click_by_key armed = unwrap_or armed (Keys keys.Left)

-- the click at the cell of the pointer that is shown
abbrev pub clicked : Spot → Hand → Hand × Action
clicked at hand = (
  record hand { armed = None },
  released_at (Some (click_by_key hand.armed)) (begins_at hand.armed hand.pointer.start at) at,
)

-- Where the pointer is shown, Return is that click, and a tabulator seeks the next command from there on. Another byte puts
-- it away, and is typed.
unfoldable pub hand_after_byte : ℕ → Option Spot → Hand → Hand × Action
hand_after_byte b None hand = (hand, typing_action (b ∷ []))
hand_after_byte b (Some at) hand =
    if b == return then clicked at hand else
    (if b == tabulator then (hand, Seek at)
    else (record hand { pointer = laid_aside hand.pointer }, typing_action (b ∷ [])))

-- an arrow moves the pointer where that is shown, and is else a click beside the caret
unfoldable pub hand_after_arrow : ℕ → ArrowKey → Option Spot → Hand → Hand × Action
hand_after_arrow n arrow None hand = (hand, Step arrow)
hand_after_arrow n arrow (Some at) hand =
    (record hand { pointer = moved_to (spot_moved n arrow at) hand.pointer }, Nothing)

-- with Shift it moves the pointer further, and else selects
unfoldable pub hand_after_leap : ArrowKey → Option Spot → Hand → Hand × Action
hand_after_leap arrow None hand = (hand, Select arrow)
hand_after_leap arrow (Some at) hand = hand_after_arrow LEAP arrow (Some at) hand

unfoldable pub is_same_click : Click → Click → Bool
is_same_click Mark Mark = true
is_same_click Mark (Keys others) = false
is_same_click (Keys some) Mark = false
is_same_click (Keys some) (Keys others) = keys_number some == keys_number others

unfoldable pub is_armed_with : Click → Option Click → Bool
is_armed_with click None = false
is_armed_with click (Some armed) = is_same_click click armed

-- a function key says what the next click is, and a draw begins where the pointer is shown
abbrev pub arming : Click → Hand → Hand × Action
arming click hand = (record hand { armed = Some click; pointer = started hand.pointer }, Nothing)

-- the same key again is the click where the pointer is shown
unfoldable pub armed_with : Click → Option Spot → Hand → Hand × Action
armed_with click None hand = arming click hand
armed_with click (Some at) hand =
    if is_armed_with click hand.armed then clicked at hand else arming click hand

-- F1 to F7 and F12 say what the next click is, F8 asks for a name, and F11 shows the pointer or puts it away
unfoldable pub by_function : Sight → FunctionKey → Hand → Hand × Action
by_function sight F1 hand = armed_with Mark hand.pointer.shown hand
by_function sight F2 hand = armed_with (Keys keys.Middle) hand.pointer.shown hand
by_function sight F3 hand = armed_with (Keys keys.Right) hand.pointer.shown hand
by_function sight F4 hand = armed_with (Keys keys.LeftMiddle) hand.pointer.shown hand
by_function sight F5 hand = armed_with (Keys keys.LeftRight) hand.pointer.shown hand
by_function sight F6 hand = armed_with (Keys keys.RightLeft) hand.pointer.shown hand
by_function sight F7 hand = armed_with (Keys keys.RightMiddle) hand.pointer.shown hand
by_function sight F8 hand = asks_for asked_for.File hand
by_function sight F9 hand = (hand, LookAnew)
by_function sight F10 hand = (hand, Leave)
by_function sight F11 hand = (record hand { pointer = toggled sight hand.pointer }, Nothing)
by_function sight F12 hand = armed_with (Keys keys.Left) hand.pointer.shown hand

-- ---- the mouse

-- what a click is that begins with a button: the left one is the middle one with Alt and the right one with Ctrl, and
-- is without them what a function key has said
unfoldable pub click_meant : Button → MouseReport → Option Click → Click
click_meant Left report armed =
    if report.with_alt then Keys keys.Middle else
    (if report.with_control then Keys keys.Right else unwrap_or armed (Keys keys.Left))
click_meant Middle report armed = Keys keys.Middle
click_meant Right report armed = Keys keys.Right

abbrev pub spot_of : Sight → MouseReport → Spot
spot_of sight report = spot_in sight report.column report.row

abbrev pub gesture_of : Option Click → Sight → MouseReport → Gesture
gesture_of click sight report = record {
  click = click;
  start = spot_of sight report;
  down = with_button report.button true no_buttons;
}

-- A gesture begins. One that begins outside the display comes to nothing, and what a function key has said waits on.
unfoldable pub begun : Sight → MouseReport → Hand → Hand
begun sight report hand =
    if is_in_sight sight report.column report.row then
    record hand {
      armed = None;
      gesture = Some (gesture_of (Some (click_meant report.button report hand.armed)) sight report);
    }
    else record hand { gesture = Some (gesture_of None sight report) }

-- A button goes down. Where it was down before, the end of that gesture was lost, and another one begins.
unfoldable pub gone_down : Option Gesture → Sight → MouseReport → Hand → Hand
gone_down None sight report hand = begun sight report hand
gone_down (Some gesture) sight report hand =
    if is_down report.button gesture.down then begun sight report hand else
    record hand { gesture = Some (pressed_more report.button gesture) }

-- a gesture ends where none of its buttons is down
unfoldable pub rested : Gesture → Spot → Hand → Hand × Action
rested gesture spot hand =
    if is_none_down gesture.down then
    (record hand { gesture = None }, released_at gesture.click gesture.start spot)
    else (record hand { gesture = Some gesture }, Nothing)

unfoldable pub gone_up : Option Gesture → Button → Spot → Hand → Hand × Action
gone_up None button spot hand = (hand, Nothing)
gone_up (Some gesture) button spot hand = rested (released button gesture) spot hand

-- With Shift or Alt a right click extends what is selected: most terminals keep Shift with the mouse to themselves.
abbrev pub extends : MouseReport → Bool
extends report = report.with_shift || report.with_alt

abbrev pub extending_event : Event → Action
extending_event (Point keys.Right x0 y0 x1 y1) =
    Extend (record { x = x0; y = y0 }) (record { x = x1; y = y1 })
extending_event event = Post event

unfoldable pub extending : Action → Action
extending (Post event) = extending_event event
extending a = a

abbrev pub extending_if : Bool → Hand × Action → Hand × Action
extending_if extends next = if extends then (next.0, extending next.1) else next

unfoldable pub hand_after_button : Sight → MouseReport → Hand → Hand × Action
hand_after_button sight report hand =
    if report.is_down then (gone_down hand.gesture sight report hand, Nothing) else
    extending_if (extends report)
    (gone_up hand.gesture report.button (spot_of sight report) hand)

-- the mouse points where a report has told it last; outside the display it points nowhere
abbrev pub pointed_at : Sight → ℕ → ℕ → Hand → Hand
pointed_at sight column row hand = record hand {
  pointer = record hand.pointer { mouse = cell_shown sight column row };
}

abbrev pub hand_after_report : Sight → MouseReport → Hand → Hand × Action
hand_after_report sight report hand =
    hand_after_button sight report (pointed_at sight report.column report.row hand)

-- ---- what scrolls

abbrev pub wheel_scroll : Bool → ScrollKey
wheel_scroll is_up = if is_up then WheelUp else WheelDown

-- the wheel moves the text of the viewer at which the mouse points, and does nothing while a gesture is under way
unfoldable pub wheel_action : Bool → Bool → Option Spot → Action
wheel_action is_up is_amid None = Nothing
wheel_action is_up is_amid (Some spot) =
    if is_amid then Nothing else action.Scroll (Some spot) (wheel_scroll is_up)

abbrev pub turned_wheel : WheelReport → Hand → Hand × Action
turned_wheel report hand =
    (hand, wheel_action report.is_up (is_some hand.gesture) hand.pointer.mouse)

abbrev pub hand_after_wheel : Sight → WheelReport → Hand → Hand × Action
hand_after_wheel sight report hand =
    turned_wheel report (pointed_at sight report.column report.row hand)

-- A key that goes a page further moves the text of the viewer that is pointed at. Where none is, it is the viewer
-- of the caret, as for the ends of a text.
unfoldable pub scroll_place : ScrollKey → Option Spot → Option Spot
scroll_place PageUp pointer = pointer
scroll_place PageDown pointer = pointer
scroll_place WheelUp pointer = None
scroll_place WheelDown pointer = None
scroll_place First pointer = None
scroll_place Last pointer = None

-- ---- presses

-- what a press comes to while nothing is pasted
unfoldable pub fresh : Sight → Press → Hand → Hand × Action
fresh sight (Character b) hand = hand_after_byte b hand.pointer.shown hand
fresh sight Foreign hand = (hand, Ring)
fresh sight (Control b) hand = controlled b hand
fresh sight Back hand = (hand, Post (Key key.Back))
fresh sight Delete hand = (hand, action.Delete)
fresh sight Escape hand = hand_after_escape hand
fresh sight (Arrow arrow) hand = hand_after_arrow 1 arrow hand.pointer.shown hand
fresh sight (Leap arrow) hand = hand_after_leap arrow hand.pointer.shown hand
fresh sight (Scroll scroll) hand =
    (hand, action.Scroll (scroll_place scroll (pointed_cell hand.pointer)) scroll)
fresh sight (Page page) hand = (hand, Move page)
fresh sight (Function function) hand = by_function sight function hand
fresh sight (Mouse report) hand = hand_after_report sight report hand
fresh sight (Wheel report) hand = hand_after_wheel sight report hand
fresh sight PasteBegins hand = (record hand { paste = Some new_paste }, Nothing)
fresh sight PasteEnds hand = (hand, Nothing)
fresh sight (Size rows columns) hand = (hand, Fit rows columns)
fresh sight FileFails hand = (hand, FileFailed)
fresh sight Unknown hand = (hand, Nothing)

abbrev pub begins_paste : Press → Bool
begins_paste PasteBegins = true
begins_paste _ = false

abbrev pub ends_paste : Press → Bool
ends_paste PasteEnds = true
ends_paste _ = false

abbrev pub with_paste : Paste × Action → Hand → Hand × Action
with_paste next hand = (record hand { paste = Some next.0 }, next.1)

-- the hand after a paste
abbrev pub after_paste : Hand → Hand
after_paste hand = record hand { paste = None }

-- what a press comes to while a text is pasted: what is in no event yet is one where the paste ends
unfoldable pub pasting : Option Paste → Press → Hand → Hand × Action
pasting None press hand = (hand, Nothing)
pasting (Some paste) press hand =
    if ends_paste press then (after_paste hand, typing_action paste.bytes)
    else with_paste (pasted_on press paste) hand

abbrev pub is_pasting : Option Paste → Bool
is_pasting None = false
is_pasting (Some paste) = true

abbrev pub with_asked : Asked → Hand → Hand × Action
with_asked next hand = (record hand { asked = next.0 }, next.1)

-- what a press comes to while a name is asked for and none is pasted
unfoldable pub answering : List ℕ → Press → Hand → Hand × Action
answering name press hand =
    if begins_paste press then (record hand { paste = Some new_paste }, Nothing) else
    with_asked (answered press name) hand

-- what it comes to while the name is pasted
unfoldable pub pasting_name : List ℕ → Press → Hand → Hand × Action
pasting_name name press hand =
    if ends_paste press then (after_paste hand, Nothing)
    else with_asked (pasted_name press name) hand

-- what a press comes to while an answer is asked for
unfoldable pub answered_on : List ℕ → Press → Hand → Hand × Action
answered_on name press hand =
    if is_pasting hand.paste then pasting_name name press hand else answering name press hand

abbrev pub meant_as_line : Hand × Action → Hand × Action
meant_as_line next = (next.0, line_meant next.1)

-- and while that is a line: a name of digits, and the number that it spells
unfoldable pub numbered : List ℕ → Press → Hand → Hand × Action
numbered name press hand = if is_no_digit press then (hand, Ring) else
    meant_as_line (answered_on name press hand)

-- and while that is words
unfoldable pub answering_words : Bool → List ℕ → Press → Hand → Hand × Action
answering_words before words press hand =
    if begins_paste press then (record hand { paste = Some new_paste }, Nothing) else
    with_asked (answered_words before press words) hand

unfoldable pub pasting_words : List ℕ → Press → Hand → Hand × Action
pasting_words words press hand =
    if ends_paste press then (after_paste hand, Nothing)
    else with_asked (pasted_words press words) hand

unfoldable pub worded : Bool → List ℕ → Press → Hand → Hand × Action
worded before words press hand = if is_pasting hand.paste then pasting_words words press hand
    else answering_words before words press hand

-- by what is asked for
abbrev pub asked_on : Asks → List ℕ → Press → Hand → Hand × Action
asked_on asked_for.File name press hand = answered_on name press hand
asked_on asked_for.Line name press hand = numbered name press hand
asked_on asked_for.Words name press hand = worded false name press hand
asked_on asked_for.WordsBefore name press hand = worded true name press hand

-- where nothing is asked for, a paste is a text; where it is, it is the answer
unfoldable pub by_question : Sight → Option (List ℕ) → Press → Hand → Hand × Action
by_question sight None press hand =
    if is_pasting hand.paste then pasting hand.paste press hand else fresh sight press hand
by_question sight (Some name) press hand = asked_on hand.asks name press hand

-- a hand and a press give a hand and an action, where this part of the display is in sight
unfoldable pub handled : Sight → Press → Hand → Hand × Action
handled sight press hand = by_question sight hand.asked press hand

-- whether a text is pasted
abbrev pub pastes_text : Hand → Bool
pastes_text hand = is_pasting hand.paste && not (is_some hand.asked)

-- the rest of the text that is pasted, if one is, comes to nothing
abbrev pub dropping : Hand → Hand
dropping hand = record hand { paste = option_map dropped hand.paste }

-- the pointer that keys move is shown at a cell of the display, by its column and its row
abbrev pub with_pointer : ℕ × ℕ → Hand → Hand
with_pointer at hand =
    record hand { pointer = moved_to (record { x = at.0; y = at.1 }) hand.pointer }

-- and nothing is pointed at any more
abbrev pub without_pointer : Hand → Hand
without_pointer hand = record hand { pointer = unpointed hand.pointer }
