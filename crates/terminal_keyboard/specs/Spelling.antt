-- Which bytes spell a press.
use Rattle.std.specs.Prelude.{◌≡◌, ℕ, ◌+◌, ◌-◌, ◌*◌, ◌<◌, ◌≤◌, ◌^◌, Bool, ◌==◌, ◌&&◌, ◌||◌, not, nat_le, nat_lt}
use Rattle.std.specs.Prelude.{if◌then◌else◌, ◌⊎◌, List, [], ◌∷◌, ◌++◌, IsTrue}
use Rattle.std.specs.List.{list_all}
use Rattle.event_bytes.specs.Bytes.{lies_within, is_digit, is_text_byte}
use Rattle.terminal_presses.specs.declared.press.Heard.{Heard}
use Rattle.terminal_presses.specs.declared.press.Heard.TheVariants.{Byte, Quiet}
use Rattle.terminal_presses.specs.declared.press.Button.{Button}
use Rattle.terminal_presses.specs.declared.press.Button.TheVariants.{Left, Middle, Right}
use Rattle.terminal_presses.specs.declared.press.Arrow.{Arrow as ArrowKey}
use Rattle.terminal_presses.specs.declared.press.Arrow.TheVariants as arrow
use Rattle.terminal_presses.specs.declared.press.Page.{Page as PageKey}
use Rattle.terminal_presses.specs.declared.press.Page.TheVariants as page
use Rattle.terminal_presses.specs.declared.press.FunctionKey.{FunctionKey}
use Rattle.terminal_presses.specs.declared.press.FunctionKey.TheVariants.{F1, F2, F3, F4, F5, F6, F7, F8, F9, F10}
use Rattle.terminal_presses.specs.declared.press.FunctionKey.TheVariants.{F11, F12}
use Rattle.terminal_presses.specs.declared.press.Scroll.{Scroll as ScrollKey}
use Rattle.terminal_presses.specs.declared.press.Scroll.TheVariants.{WheelUp, WheelDown, PageUp, PageDown, First, Last}
use Rattle.terminal_presses.specs.declared.press.MouseReport.{MouseReport}
use Rattle.terminal_presses.specs.declared.press.WheelReport.{WheelReport}
use Rattle.terminal_presses.specs.declared.press.Press.{Press}
use Rattle.terminal_presses.specs.declared.press.Press.TheVariants.{Character, Foreign, Control, Back, Delete, Escape}
use Rattle.terminal_presses.specs.declared.press.Press.TheVariants.{Arrow}
use Rattle.terminal_presses.specs.declared.press.Press.TheVariants.{Page, Function, Mouse, PasteBegins, PasteEnds, Size}
use Rattle.terminal_presses.specs.declared.press.Press.TheVariants.{Leap, Scroll, Wheel, FileFails, Unknown}
use Rattle.terminal_presses.specs.declared.hand.TheConstants.{CONTROL_B, CONTROL_Y}

-- ---- numbers

-- the number that decimal digits make of one in front of them
abbrev pub value_from : ℕ → List ℕ → ℕ
value_from n [] = n
value_from n (b ∷ bs) = value_from (n * 10 + (b - 48)) bs

abbrev pub button_number : Button → ℕ
button_number Left = 0
button_number Middle = 1
button_number Right = 2

-- decimal digits, and the number that they spell
pub record IsNumeral (n : ℕ) (digits : List ℕ) : Type 0 where
  pub small : n < 2 ^ 16
  pub digits_all : IsTrue (list_all is_digit digits)
  pub value : value_from 0 digits ≡ n

-- ---- forms of several numbers

-- M for down, m for up
abbrev pub report_end : Bool → ℕ
report_end down = if down then 77 else 109

-- a number, and 4 more with Shift, 8 with Alt, 16 with Ctrl
abbrev pub number_held : ℕ → Bool → Bool → Bool → ℕ
number_held n shift alt control =
    n + (if shift then 4 else 0) + (if alt then 8 else 0) + (if control then 16 else 0)

abbrev pub report_number : MouseReport → ℕ
report_number report =
    number_held (button_number report.button) report.with_shift report.with_alt
    report.with_control

-- a turn upward, or downward
abbrev pub wheel_number : Bool → ℕ
wheel_number up = if up then 64 else 65

-- an escape byte, [ and <, the number of what is pressed, the column, the row, and the end
pub record IsMouseText (n column row end : ℕ) (text : List ℕ) : Type 0 where
  pub number : List ℕ
  pub across : List ℕ
  pub down : List ℕ
  pub number_is : IsNumeral n number
  pub column_is : IsNumeral column across
  pub row_is : IsNumeral row down
  pub parts : text ≡ 27 ∷ 91 ∷ 60 ∷ number ++ 59 ∷ (across ++ 59 ∷ (down ++ end ∷ []))

abbrev pub IsReport : MouseReport → List ℕ → Type 0
IsReport report text =
    IsMouseText (report_number report) report.column report.row (report_end report.is_down) text

-- whichever keys are held with it
abbrev pub IsWheel : WheelReport → List ℕ → Type 0
IsWheel report text =
    (shift alt control : Bool)
    × IsMouseText (number_held (wheel_number report.is_up) shift alt control) report.column
    report.row 77 text

-- an escape byte, [, the number 8, the rows, the columns, and t
pub record IsSize (rows columns : ℕ) (text : List ℕ) : Type 0 where
  pub high : List ℕ
  pub wide : List ℕ
  pub rows_are : IsNumeral rows high
  pub columns_are : IsNumeral columns wide
  pub parts : text ≡ 27 ∷ 91 ∷ 56 ∷ 59 ∷ high ++ 59 ∷ (wide ++ 116 ∷ [])

-- a character of several bytes: the first is from 192 on, and those that go on with it are from 128 to 191
pub record IsLongCharacter (text : List ℕ) : Type 0 where
  pub first : ℕ
  pub rest : List ℕ
  pub high : 192 ≤ first
  pub goes_on : IsTrue (list_all (lies_within 128 191) rest)
  pub parts : text ≡ first ∷ rest

-- ---- keys

-- a byte that is no key of its own and can't be typed
abbrev pub is_control : ℕ → Bool
is_control b = nat_lt b 32 && not (is_text_byte b || ((b == 8) || (b == 27)))

-- a byte that is pressed with Alt, and goes on with no spelling of a key
abbrev pub is_alone_with_alt : ℕ → Bool
is_alone_with_alt b =
    not (nat_le b 32
    || ((b == 79) || ((b == 91) || ((b == 122) || ((b == 102) || lies_within 49 55 b)))))

-- an escape byte and [, and those bytes
abbrev pub key_sequence : List ℕ → List ℕ
key_sequence bytes = 27 ∷ 91 ∷ bytes

-- an escape byte and O, and that letter
abbrev pub shifted_sequence : ℕ → List ℕ
shifted_sequence letter = 27 ∷ 79 ∷ letter ∷ []

-- an escape byte and another one, as the key Alt spells them
abbrev pub byte_with_alt : ℕ → List ℕ
byte_with_alt byte = 27 ∷ byte ∷ []

-- an escape byte and [, and that letter
abbrev pub letter_alone : ℕ → List ℕ
letter_alone letter = key_sequence (letter ∷ [])

-- a key that has a letter, which terminals spell in two ways
abbrev pub letter_twice : ℕ → List (List ℕ) → List (List ℕ)
letter_twice letter others = letter_alone letter ∷ shifted_sequence letter ∷ others

-- a number of one digit
abbrev pub by_digit : ℕ → List ℕ
by_digit digit = key_sequence (digit ∷ 126 ∷ [])

-- a digit, the number 2, 3 or 5 for Shift, Alt or Ctrl, and the end
abbrev pub held_sequence : ℕ → ℕ → ℕ → List ℕ
held_sequence digit held end = key_sequence (digit ∷ 59 ∷ held ∷ end ∷ [])

abbrev pub arrow_spellings : ArrowKey → List (List ℕ)
arrow_spellings arrow.Up = letter_twice 65 []
arrow_spellings arrow.Down = letter_twice 66 []
arrow_spellings arrow.Right = letter_twice 67 []
arrow_spellings arrow.Left = letter_twice 68 []
arrow_spellings arrow.Home = letter_twice 72 (by_digit 49 ∷ by_digit 55 ∷ [])
arrow_spellings arrow.End = letter_twice 70 (by_digit 52 ∷ by_digit 56 ∷ [])
arrow_spellings arrow.WordRight = held_sequence 49 53 67 ∷ []
arrow_spellings arrow.WordLeft = held_sequence 49 53 68 ∷ []

-- the letter of a key with Shift
abbrev pub leap_spellings : ArrowKey → List (List ℕ)
leap_spellings arrow.Up = held_sequence 49 50 65 ∷ []
leap_spellings arrow.Down = held_sequence 49 50 66 ∷ []
leap_spellings arrow.Right = held_sequence 49 50 67 ∷ []
leap_spellings arrow.Left = held_sequence 49 50 68 ∷ []
leap_spellings arrow.Home = held_sequence 49 50 72 ∷ []
leap_spellings arrow.End = held_sequence 49 50 70 ∷ []
leap_spellings arrow.WordRight = []
leap_spellings arrow.WordLeft = []

-- PageUp and PageDown, and Home and End with Ctrl; no key turns the wheel
abbrev pub scroll_spellings : ScrollKey → List (List ℕ)
scroll_spellings PageUp = by_digit 53 ∷ []
scroll_spellings PageDown = by_digit 54 ∷ []
scroll_spellings First = held_sequence 49 53 72 ∷ []
scroll_spellings Last = held_sequence 49 53 70 ∷ []
scroll_spellings WheelUp = []
scroll_spellings WheelDown = []

-- PageUp, PageDown, and the arrows to the sides, with Alt
abbrev pub page_spelling : PageKey → List ℕ
page_spelling page.Up = held_sequence 53 51 126
page_spelling page.Down = held_sequence 54 51 126
page_spelling page.Right = held_sequence 49 51 67
page_spelling page.Left = held_sequence 49 51 68

-- the first four keys have a letter, which terminals spell in two ways
abbrev pub by_letter : ℕ → List (List ℕ) → List (List ℕ)
by_letter letter others = shifted_sequence letter ∷ letter_alone letter ∷ others

-- a number of two digits
abbrev pub by_number : ℕ → ℕ → List ℕ
by_number ten one = key_sequence (ten ∷ one ∷ 126 ∷ [])

-- the console of Linux has letters of its own for the first five
abbrev pub by_console : ℕ → List ℕ
by_console letter = key_sequence (91 ∷ letter ∷ [])

abbrev pub function_spellings : FunctionKey → List (List ℕ)
function_spellings F1 = by_letter 80 (by_number 49 49 ∷ by_console 65 ∷ byte_with_alt 49 ∷ [])
function_spellings F2 = by_letter 81 (by_number 49 50 ∷ by_console 66 ∷ byte_with_alt 50 ∷ [])
function_spellings F3 = by_letter 82 (by_number 49 51 ∷ by_console 67 ∷ byte_with_alt 51 ∷ [])
function_spellings F4 = by_letter 83 (by_number 49 52 ∷ by_console 68 ∷ byte_with_alt 52 ∷ [])
function_spellings F5 = by_number 49 53 ∷ by_console 69 ∷ byte_with_alt 53 ∷ []
function_spellings F6 = by_number 49 55 ∷ byte_with_alt 54 ∷ []
function_spellings F7 = by_number 49 56 ∷ byte_with_alt 55 ∷ []
function_spellings F8 = by_number 49 57 ∷ []
function_spellings F9 = by_number 50 48 ∷ []
function_spellings F10 = by_number 50 49 ∷ []
function_spellings F11 = by_number 50 51 ∷ byte_with_alt 32 ∷ []
function_spellings F12 = by_number 50 52 ∷ []

-- ---- presses

abbrev pub IsOneOf : List (List ℕ) → List ℕ → Type 0
IsOneOf [] text = ⊥
IsOneOf (one ∷ others) text = (text ≡ one) ⊎ IsOneOf others text

-- the byte itself; Ctrl with y is also Alt with z, and Ctrl with b Alt with f
abbrev pub IsControlSpelled : ℕ → List ℕ → Type 0
IsControlSpelled b text = (IsTrue (is_control b) × (text ≡ b ∷ []))
    ⊎ (((b ≡ CONTROL_Y) × (text ≡ byte_with_alt 122))
    ⊎ ((b ≡ CONTROL_B) × (text ≡ byte_with_alt 102)))

-- the bytes that spell a press; those of the key Escape are told apart by what comes after them
abbrev pub SpellsPress : Press → List ℕ → Type 0
SpellsPress (Character b) text = IsTrue (is_text_byte b) × (text ≡ b ∷ [])
SpellsPress Foreign text = IsLongCharacter text
SpellsPress (Control b) text = IsControlSpelled b text
SpellsPress Back text = IsOneOf ((8 ∷ []) ∷ (127 ∷ []) ∷ []) text
SpellsPress Delete text = text ≡ by_digit 51
SpellsPress Escape text = ⊥
SpellsPress (Arrow key) text = IsOneOf (arrow_spellings key) text
SpellsPress (Leap key) text = IsOneOf (leap_spellings key) text
SpellsPress (Scroll scroll) text = IsOneOf (scroll_spellings scroll) text
SpellsPress (Page key) text = text ≡ page_spelling key
SpellsPress (Function key) text = IsOneOf (function_spellings key) text
SpellsPress (Mouse report) text = IsReport report text
SpellsPress (Wheel report) text = IsWheel report text
SpellsPress PasteBegins text = text ≡ key_sequence (50 ∷ 48 ∷ 48 ∷ 126 ∷ [])
SpellsPress PasteEnds text = text ≡ key_sequence (50 ∷ 48 ∷ 49 ∷ 126 ∷ [])
SpellsPress (Size rows columns) text = IsSize rows columns text
SpellsPress FileFails text = text ≡ key_sequence (50 ∷ 48 ∷ 50 ∷ 126 ∷ [])
SpellsPress Unknown text = ⊥

-- bytes, as they are heard one after another
abbrev pub bytes_heard : List ℕ → List Heard
bytes_heard [] = []
bytes_heard (b ∷ bs) = Byte b ∷ bytes_heard bs

-- What is heard of one press: the bytes that spell it, or of the key Escape its byte before a quiet while.
pub record IsSpelled (press : Press) (heard : List Heard) : Type 0 where
  pub text : List ℕ
  pub spells : SpellsPress press text
  pub is : heard ≡ bytes_heard text

abbrev pub IsPressHeard : Press → List Heard → Type 0
IsPressHeard press heard = IsSpelled press heard
    ⊎ ((press ≡ Escape) × (heard ≡ Byte 27 ∷ Quiet ∷ []))

-- what is heard of presses, one after another
abbrev pub AreHeard : List Press → List Heard → Type 0
AreHeard [] heard = heard ≡ []
AreHeard (press ∷ presses) heard =
    (front : List Heard) × (rest : List Heard) × IsPressHeard press front × AreHeard presses rest
    × (heard ≡ front ++ rest)

-- what is heard of a text that is pasted
abbrev pub pasted : List ℕ → List Heard
pasted text = bytes_heard (key_sequence (50 ∷ 48 ∷ 48 ∷ 126 ∷ []))
    ++ (bytes_heard text ++ bytes_heard (key_sequence (50 ∷ 48 ∷ 49 ∷ 126 ∷ [])))
