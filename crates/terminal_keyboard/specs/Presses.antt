-- What was pressed, as a function of what was heard.
use Rattle.std.specs.Prelude.{ℕ, ◌+◌, ◌-◌, ◌*◌, ◌/◌, ◌%◌, Bool, true, false, ◌==◌, ◌||◌, not, nat_lt, nat_le, min}
use Rattle.std.specs.Prelude.{◌&&◌, if◌then◌else◌, List, [], ◌∷◌, ◌++◌, Option, Some, None, slice_get}
use Rattle.event_bytes.specs.Bytes.{lies_within, is_digit}
use Rattle.terminal_presses.specs.declared.press.Heard.{Heard}
use Rattle.terminal_presses.specs.declared.press.Heard.TheVariants.{Byte, Quiet}
use Rattle.terminal_presses.specs.declared.press.Button.{Button}
use Rattle.terminal_presses.specs.declared.press.Button.TheVariants.{Left, Middle, Right}
use Rattle.terminal_presses.specs.declared.press.Arrow.{Arrow as ArrowKey}
use Rattle.terminal_presses.specs.declared.press.Arrow.TheVariants as arrow
use Rattle.terminal_presses.specs.declared.press.Scroll.{Scroll as ScrollKey}
use Rattle.terminal_presses.specs.declared.press.Scroll.TheVariants.{WheelUp, WheelDown, PageUp, PageDown, First, Last}
use Rattle.terminal_presses.specs.declared.press.Page.TheVariants as page
use Rattle.terminal_presses.specs.declared.press.FunctionKey.{FunctionKey}
use Rattle.terminal_presses.specs.declared.press.FunctionKey.TheVariants.{F1, F2, F3, F4, F5, F6, F7, F8, F9, F10}
use Rattle.terminal_presses.specs.declared.press.FunctionKey.TheVariants.{F11, F12}
use Rattle.terminal_presses.specs.declared.press.Press.{Press}
use Rattle.terminal_presses.specs.declared.press.Press.TheVariants.{Control, Delete, Escape}
use Rattle.terminal_presses.specs.declared.press.Press.TheVariants.{Arrow}
use Rattle.terminal_presses.specs.declared.press.Press.TheVariants.{Page, Function, Mouse, PasteBegins, PasteEnds, Size}
use Rattle.terminal_presses.specs.declared.press.Press.TheVariants.{Leap, Scroll, Wheel, FileFails, Unknown}
use Rattle.terminal_presses.specs.declared.press.Presses.{Presses}
use Rattle.terminal_presses.specs.declared.press.Presses.TheVariants.{Nothing, One, Two}
use Rattle.terminal_keyboard.specs.declared.place.Mark.{Mark}
use Rattle.terminal_keyboard.specs.declared.place.Mark.TheVariants as mark
use Rattle.terminal_keyboard.specs.declared.place.Numbers.{Numbers}
use Rattle.terminal_keyboard.specs.declared.place.SequencePlace.{SequencePlace}
use Rattle.terminal_keyboard.specs.declared.place.SequencePlace.TheVariants as place
use Rattle.terminal_keyboard.specs.declared.parser.Parser.{Parser}
use Rattle.terminal_presses.specs.declared.hand.TheConstants.{CONTROL_B, CONTROL_Y}
use Rattle.terminal_presses.specs.Singles.{escape_byte, single}

-- ---- bytes between spellings

-- between two spellings a byte says what it says by itself, but that an escape byte may begin a longer spelling
unfoldable pub grounded : ℕ → SequencePlace × Option Press
grounded b = if b == escape_byte then (place.Escape, None) else (place.Ground, single b)

-- one press, and what may come after it
unfoldable pub preceded : Press → SequencePlace × Option Press → SequencePlace × Presses
preceded press (at, None) = (at, One press)
preceded press (at, Some next) = (at, Two press next)

-- ---- keys

abbrev pub function_keys : List FunctionKey
function_keys = F1 ∷ F2 ∷ F3 ∷ F4 ∷ F5 ∷ F6 ∷ F7 ∷ F8 ∷ F9 ∷ F10 ∷ F11 ∷ F12 ∷ []

abbrev pub arrows : List ArrowKey
arrows = arrow.Up ∷ arrow.Down ∷ arrow.Right ∷ arrow.Left ∷ []

abbrev pub buttons : List Button
buttons = Left ∷ Middle ∷ Right ∷ []

-- what a table has at a place, as a press
abbrev pub press_listed : {A : Type 0} → (A → Press) → Option A → Press
press_listed press None = Unknown
press_listed press (Some a) = press a

-- the function key at a place, counted from 0
unfoldable pub function_at : ℕ → Press
function_at n = press_listed Function (slice_get function_keys n)

unfoldable pub arrow_at : ℕ → Press
arrow_at n = press_listed Arrow (slice_get arrows n)

-- A to D are the arrows, P to S the first four function keys, F is End and H is Home
unfoldable pub lettered : ℕ → Press
lettered b =
    if lies_within 65 68 b then arrow_at (b - 65) else
    (if lies_within 80 83 b then function_at (b - 80) else
    (if b == 70 then Arrow arrow.End else (if b == 72 then Arrow arrow.Home else Unknown)))

-- keys that are spelled by a number
unfoldable pub numbered_key : ℕ → Press
numbered_key n =
    if lies_within 11 15 n then function_at (n - 11) else
    (if lies_within 17 21 n then function_at (n - 12) else
    (if lies_within 23 24 n then function_at (n - 13) else
    (if n == 5 then Scroll PageUp else
    (if n == 6 then Scroll PageDown else
    (if n == 3 then Delete else
    (if (n == 1) || (n == 7) then Arrow arrow.Home else
    (if (n == 4) || (n == 8) then Arrow arrow.End else
    (if n == 200 then PasteBegins else
    (if n == 201 then PasteEnds else
    (if n == 202 then FileFails else Unknown))))))))))

-- with Shift an arrow goes further
unfoldable pub with_shift : Press → Press
with_shift (Arrow key) = Leap key
with_shift press = press

-- with Alt the keys that go a page further move the rows in sight
unfoldable pub scroll_with_alt : ScrollKey → Press
scroll_with_alt PageUp = Page page.Up
scroll_with_alt PageDown = Page page.Down
scroll_with_alt WheelUp = Scroll WheelUp
scroll_with_alt WheelDown = Scroll WheelDown
scroll_with_alt First = Scroll First
scroll_with_alt Last = Scroll Last

-- and the arrows to the sides show the columns of a side
unfoldable pub arrow_with_alt : ArrowKey → Press
arrow_with_alt arrow.Right = Page page.Right
arrow_with_alt arrow.Left = Page page.Left
arrow_with_alt arrow.Up = Arrow arrow.Up
arrow_with_alt arrow.Down = Arrow arrow.Down
arrow_with_alt arrow.Home = Arrow arrow.Home
arrow_with_alt arrow.End = Arrow arrow.End
arrow_with_alt arrow.WordRight = Arrow arrow.WordRight
arrow_with_alt arrow.WordLeft = Arrow arrow.WordLeft

unfoldable pub with_alt : Press → Press
with_alt (Scroll scroll) = scroll_with_alt scroll
with_alt (Arrow key) = arrow_with_alt key
with_alt press = press

-- with Ctrl an arrow goes by words, and the ends of a row are those of the text
unfoldable pub arrow_with_control : ArrowKey → Press
arrow_with_control arrow.Up = Arrow arrow.Up
arrow_with_control arrow.Down = Arrow arrow.Down
arrow_with_control arrow.Right = Arrow arrow.WordRight
arrow_with_control arrow.Left = Arrow arrow.WordLeft
arrow_with_control arrow.Home = Scroll First
arrow_with_control arrow.End = Scroll Last
arrow_with_control arrow.WordRight = Arrow arrow.WordRight
arrow_with_control arrow.WordLeft = Arrow arrow.WordLeft

unfoldable pub with_control : Press → Press
with_control (Arrow key) = arrow_with_control key
with_control press = press

-- what is held with a key, by the second number of its sequence: 2 is Shift, 3 is Alt, and 5 is Ctrl
unfoldable pub held_with : ℕ → Press → Press
held_with n press = if n == 2 then with_shift press else
    (if n == 3 then with_alt press else
    (if n == 5 then with_control press else press))

-- ---- numbers of a sequence

-- the greatest number that is told apart
abbrev pub greatest_number : ℕ
greatest_number = 65535

-- a number with a digit more
unfoldable pub longer : ℕ → ℕ → ℕ
longer n digit = min (n * 10 + digit) greatest_number

abbrev pub no_numbers : Numbers
no_numbers = record { mark = mark.Plain; last = 0; first = 0; second = 0; third = 0 }

-- the number that stands last has a digit more; those after the third don't count
unfoldable pub with_digit : Numbers → ℕ → Numbers
with_digit s digit =
    if s.last == 0 then record s { first = longer s.first digit } else
    (if s.last == 1 then record s { second = longer s.second digit } else
    (if s.last == 2 then record s { third = longer s.third digit } else s))

-- another number begins
unfoldable pub with_number : Numbers → Numbers
with_number s = record s { last = min (s.last + 1) 3 }

-- the mark of mouse reports stands alone
unfoldable pub mouse_mark : Numbers → Mark → Numbers
mouse_mark s mark.Plain = record s { mark = mark.Mouse }
mouse_mark s mark.Mouse = record s { mark = mark.Odd }
mouse_mark s mark.Odd = record s { mark = mark.Odd }

-- ---- what a whole sequence says

-- a turn of the wheel has the number 64 upward and 65 downward, and more with keys as a button has; those that follow
-- are turns to the sides, which mean nothing
unfoldable pub wheel_press : Numbers → Bool → Press
wheel_press s is_down =
    if nat_lt s.first 64 || (nat_lt 95 s.first || not is_down) then Unknown else
    press_listed (λ is_up. Wheel (record { is_up = is_up; column = s.second; row = s.third }))
    (slice_get (true ∷ false ∷ []) (s.first % 4))

-- a button's number has 4 more with Shift, 8 more with Alt and 16 more with Ctrl; from 32 on it is a motion, the wheel or
-- a further button
unfoldable pub reported_press : Numbers → Bool → Press
reported_press s is_down =
    if nat_le 32 s.first then wheel_press s is_down else
    press_listed (λ button. Mouse (record {
      button = button;
      is_down = is_down;
      with_shift = s.first / 4 % 2 == 1;
      with_alt = s.first / 8 % 2 == 1;
      with_control = s.first / 16 % 2 == 1;
      column = s.second;
      row = s.third;
    })) (slice_get buttons (s.first % 4))

-- a mouse report ends with M for down and m for up
unfoldable pub moused : Numbers → ℕ → Press
moused s b = if b == 77 then reported_press s true
    else (if b == 109 then reported_press s false else Unknown)

-- a size, as an answer or as news
unfoldable pub sized : Numbers → Press
sized s = if (s.first == 8) || (s.first == 48) then Size s.second s.third else Unknown

-- The row and the column of the cursor, which was sent to the last cell before. No row below the first one is told so by
-- a key.
abbrev pub tells_last_cell : Numbers → ℕ → Bool
tells_last_cell s b = (b == 82) && nat_lt 1 s.first

-- a sequence with no mark ends with ~ after a key's number, with t after a size, with R after the last cell, or else with
-- a key's letter
unfoldable pub unmarked_press : Numbers → ℕ → Press
unmarked_press s b = if b == 126 then held_with s.second (numbered_key s.first)
    else (if b == 116 then sized s
    else (if tells_last_cell s b then Size s.first s.second else held_with s.second (lettered b)))

-- a sequence ends with this byte. M with no mark begins a mouse report of the older form: three bytes follow
unfoldable pub sequence_end : Numbers → Mark → ℕ → SequencePlace × Presses
sequence_end s mark.Plain b = if b == 77 then (place.Report 3, Nothing)
    else (place.Ground, One (unmarked_press s b))
sequence_end s mark.Mouse b = (place.Ground, One (moused s b))
sequence_end s mark.Odd b = (place.Ground, One Unknown)

-- ---- one byte more

-- a byte that can't go on with a spelling cuts it off, and is heard anew
unfoldable pub cut_off : ℕ → SequencePlace × Presses
cut_off b = preceded Unknown (grounded b)

abbrev pub press_alone : SequencePlace × Option Press → SequencePlace × Presses
press_alone (at, None) = (at, Nothing)
press_alone (at, Some press) = (at, One press)

unfoldable pub after_ground : ℕ → SequencePlace × Presses
after_ground b = press_alone (grounded b)

-- [ or O go on with a spelling, and a digit from 1 to 7 is Alt with it: a function key, and so is a space. Alt with z is
-- Ctrl with y, and Alt with f is Ctrl with b. With any other byte above the space it is the key Alt, and means nothing.
-- Before a byte below that it was a key of its own.
unfoldable pub after_escape : ℕ → SequencePlace × Presses
after_escape b =
    if b == 91 then (place.Sequence no_numbers, Nothing) else
    (if b == 79 then (place.Shift, Nothing) else
    (if lies_within 49 55 b then (place.Ground, One (function_at (b - 49))) else
    (if b == 32 then (place.Ground, One (Function F11)) else
    (if b == 122 then (place.Ground, One (Control CONTROL_Y)) else
    (if b == 102 then (place.Ground, One (Control CONTROL_B)) else
    (if nat_lt b 32 then preceded Escape (grounded b) else (place.Ground, One Unknown)))))))

unfoldable pub after_shift : ℕ → SequencePlace × Presses
after_shift b = if lies_within 32 126 b then (place.Ground, One (lettered b)) else cut_off b

unfoldable pub after_console : ℕ → SequencePlace × Presses
after_console b =
    if lies_within 65 69 b then (place.Ground, One (function_at (b - 65))) else
    (if lies_within 32 126 b then (place.Ground, One Unknown) else cut_off b)

unfoldable pub after_report : ℕ → ℕ → SequencePlace × Presses
after_report missing b =
    if nat_lt b 32 then cut_off b else
    (if nat_le missing 1 then (place.Ground, One Unknown)
    else (place.Report (missing - 1), Nothing))

-- digits, ; between numbers, < in front of a mouse report; from @ to ~ a byte ends a sequence, but [ leads to a
-- spelling of another kind
unfoldable pub after_sequence : Numbers → ℕ → SequencePlace × Presses
after_sequence s b =
    if is_digit b then (place.Sequence (with_digit s (b - 48)), Nothing) else
    (if b == 59 then (place.Sequence (with_number s), Nothing) else
    (if b == 60 then (place.Sequence (mouse_mark s s.mark), Nothing) else
    (if b == 91 then (place.Console, Nothing) else
    (if lies_within 64 126 b then sequence_end s s.mark b else
    (if lies_within 32 63 b then (place.Sequence (record s { mark = mark.Odd }), Nothing)
    else cut_off b)))))

unfoldable pub after_byte : SequencePlace → ℕ → SequencePlace × Presses
after_byte place.Ground b = after_ground b
after_byte place.Escape b = after_escape b
after_byte place.Shift b = after_shift b
after_byte (place.Sequence s) b = after_sequence s b
after_byte place.Console b = after_console b
after_byte (place.Report missing) b = after_report missing b

abbrev pub is_plain : Mark → Bool
is_plain mark.Plain = true
is_plain mark.Mouse = false
is_plain mark.Odd = false

-- whether nothing is heard of a sequence but its beginning
unfoldable pub is_bare_sequence : Numbers → Bool
is_bare_sequence s = is_plain s.mark && ((s.last == 0) && (s.first == 0))

-- An escape byte after which no byte comes for a while was the key. No terminal ends a sequence so late that has only
-- begun: it is the key Alt with O or [, and means nothing. All else waits for its next byte.
unfoldable pub after_quiet : SequencePlace → SequencePlace × Presses
after_quiet place.Escape = (place.Ground, One Escape)
after_quiet place.Ground = (place.Ground, Nothing)
after_quiet place.Shift = (place.Ground, One Unknown)
after_quiet (place.Sequence s) = if is_bare_sequence s then (place.Ground, One Unknown)
    else (place.Sequence s, Nothing)
after_quiet place.Console = (place.Console, Nothing)
after_quiet (place.Report missing) = (place.Report missing, Nothing)

unfoldable pub sequence_after : SequencePlace → Heard → SequencePlace × Presses
sequence_after at (Byte b) = after_byte at b
sequence_after at Quiet = after_quiet at

-- ---- a run

-- the parser that has heard nothing
abbrev pub at_rest : Parser
at_rest = record { place = place.Ground }

-- the parser after one thing more that it heard, and what that completes
unfoldable pub heard_by : Parser → Heard → Parser × Presses
heard_by parser heard = let next = sequence_after parser.place heard
    in (record { place = next.0 }, next.1)

abbrev pub in_order : Presses → List Press
in_order Nothing = []
in_order (One press) = press ∷ []
in_order (Two first second) = first ∷ second ∷ []

-- the parser after all that it heard
abbrev pub parser_after : Parser → List Heard → Parser
parser_after parser [] = parser
parser_after parser (heard ∷ more) = parser_after (heard_by parser heard).0 more

-- what was pressed, by all that was heard
abbrev pub presses_heard : Parser → List Heard → List Press
presses_heard parser [] = []
presses_heard parser (heard ∷ more) =
    in_order (heard_by parser heard).1 ++ presses_heard (heard_by parser heard).0 more
