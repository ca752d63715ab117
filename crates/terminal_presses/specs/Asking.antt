-- The name of a host file, the number of a line, or words that are sought, as they are asked for and typed.
use Rattle.std.specs.Prelude.{ℕ, Bool, true, false, ◌==◌, ◌&&◌, ◌||◌, not, nat_lt, if◌then◌else◌}
use Rattle.std.specs.Prelude.{List, [], ◌∷◌, ◌++◌, length, Option, Some, None}
use Rattle.event_bytes.specs.Bytes.{is_digit}
use Rattle.terminal_presses.specs.declared.press.FunctionKey.{FunctionKey}
use Rattle.terminal_presses.specs.declared.press.FunctionKey.TheVariants.{F9, F10}
use Rattle.terminal_presses.specs.declared.press.Press.{Press}
use Rattle.terminal_presses.specs.declared.press.Press.TheVariants.{Character, Foreign, Control, Back, Delete, Escape}
use Rattle.terminal_presses.specs.declared.press.Press.TheVariants.{Arrow}
use Rattle.terminal_presses.specs.declared.press.Press.TheVariants.{Page, Function, Mouse, PasteBegins, PasteEnds, Size}
use Rattle.terminal_presses.specs.declared.press.Press.TheVariants.{Leap, Scroll, Wheel, FileFails, Unknown}
use Rattle.terminal_presses.specs.declared.action.Action.{Action}
use Rattle.terminal_presses.specs.declared.action.Action.TheVariants.{Nothing, Ring, LookAnew}
use Rattle.terminal_presses.specs.declared.action.Action.TheVariants.{Find, Leave, TypeFile, GoTo, Move, Fit}
use Rattle.terminal_presses.specs.declared.hand.TheConstants.{CONTROL_B, CONTROL_F, CONTROL_L, CONTROL_Q}
use Rattle.host_names.specs.declared.host_name.TheConstants.{MOST_SOUGHT}
use Rattle.host_names.specs.HostNames.{is_host_byte, but_last, line_number}
use Rattle.terminal_presses.specs.Pastes.{line_feed, return}

-- the name as far as it is typed, where one is still asked for, and what is done
abbrev pub Asked : Type 0
Asked = Option (List ℕ) × Action

-- a name with no byte is none
unfoldable pub entered : List ℕ → Asked
entered [] = (None, Nothing)
entered (b ∷ name) = (None, TypeFile (b ∷ name))

-- a byte more, where it can stand in a name and there is room
unfoldable pub lengthened : ℕ → List ℕ → Asked
lengthened b name =
    if is_host_byte b && nat_lt (length name) 255 then (Some (name ++ b ∷ []), Nothing)
    else (Some name, Ring)

-- a carriage return ends the name
unfoldable pub name_after_byte : ℕ → List ℕ → Asked
name_after_byte b name = if b == return then entered name else lengthened b name

-- the last byte is taken off
unfoldable pub shortened_name : List ℕ → Asked
shortened_name [] = (Some [], Ring)
shortened_name (b ∷ name) = (Some (but_last (b ∷ name)), Nothing)

-- what Ctrl comes to with J, L and Q; another letter rings
unfoldable pub controlled_name : ℕ → List ℕ → Asked
controlled_name b name =
    if b == line_feed then entered name else
    (if b == CONTROL_L then (Some name, LookAnew) else
    (if b == CONTROL_Q then (Some name, Leave) else (Some name, Ring)))

unfoldable pub by_function_amid : FunctionKey → Action
by_function_amid F9 = LookAnew
by_function_amid F10 = Leave
by_function_amid key = Ring

-- what a press comes to while a name is asked for
unfoldable pub answered : Press → List ℕ → Asked
answered (Character b) name = name_after_byte b name
answered Foreign name = (Some name, Ring)
answered (Control b) name = controlled_name b name
answered Back name = shortened_name name
answered Delete name = (Some name, Ring)
answered Escape name = (None, Nothing)
answered (Arrow arrow) name = (Some name, Ring)
answered (Leap arrow) name = (Some name, Ring)
answered (Scroll scroll) name = (Some name, Ring)
answered (Page page) name = (Some name, Move page)
answered (Function key) name = (Some name, by_function_amid key)
answered (Mouse report) name = (Some name, Nothing)
answered (Wheel report) name = (Some name, Nothing)
answered PasteBegins name = (Some name, Nothing)
answered PasteEnds name = (Some name, Nothing)
answered (Size rows columns) name = (Some name, Fit rows columns)
answered FileFails name = (Some name, Nothing)
answered Unknown name = (Some name, Nothing)

-- What a press comes to within a paste while a name is asked for: a byte of the name, and no key. What can't stand in a
-- name, as the end of a line, rings and is dropped.
unfoldable pub pasted_name : Press → List ℕ → Asked
pasted_name (Character b) name = lengthened b name
pasted_name Foreign name = (Some name, Ring)
pasted_name (Control b) name = (Some name, Ring)
pasted_name Back name = (Some name, Ring)
pasted_name Delete name = (Some name, Ring)
pasted_name Escape name = (Some name, Ring)
pasted_name (Arrow arrow) name = (Some name, Ring)
pasted_name (Leap arrow) name = (Some name, Ring)
pasted_name (Scroll scroll) name = (Some name, Ring)
pasted_name (Page page) name = (Some name, Ring)
pasted_name (Function key) name = (Some name, Ring)
pasted_name (Mouse report) name = (Some name, Nothing)
pasted_name (Wheel report) name = (Some name, Nothing)
pasted_name PasteBegins name = (Some name, Nothing)
pasted_name PasteEnds name = (Some name, Nothing)
pasted_name (Size rows columns) name = (Some name, Fit rows columns)
pasted_name FileFails name = (Some name, Nothing)
pasted_name Unknown name = (Some name, Nothing)

-- ---- a line

-- what is entered as a name where a line is asked for is its number
abbrev pub line_meant : Action → Action
line_meant (TypeFile digits) = GoTo (line_number digits)
line_meant a = a

-- a byte that neither stands in a number nor ends one
abbrev pub is_no_digit : Press → Bool
is_no_digit (Character b) = not (is_digit b || (b == return))
is_no_digit _ = false

-- ---- words

-- a byte more, where it can stand among words and there is room
unfoldable pub longer_words : ℕ → List ℕ → Asked
longer_words b words =
    if nat_lt (length words) MOST_SOUGHT then lengthened b words else (Some words, Ring)

-- a carriage return ends them; there may be none
unfoldable pub words_after_byte : Bool → ℕ → List ℕ → Asked
words_after_byte before b words =
    if b == return then (None, Find words before) else longer_words b words

-- Ctrl-J ends them as well, and so does Ctrl-F, which seeks them behind the caret, and Ctrl-B, which seeks them before it
unfoldable pub controlled_words : Bool → ℕ → List ℕ → Asked
controlled_words before b words =
    if b == line_feed then (None, Find words before) else
    (if b == CONTROL_F then (None, Find words false) else
    (if b == CONTROL_B then (None, Find words true) else controlled_name b words))

-- what a press comes to while words are asked for that are sought before the caret, or behind it
unfoldable pub answered_words : Bool → Press → List ℕ → Asked
answered_words before (Character b) words = words_after_byte before b words
answered_words before (Control b) words = controlled_words before b words
answered_words before press words = answered press words

-- and within a paste
unfoldable pub pasted_words : Press → List ℕ → Asked
pasted_words (Character b) words = longer_words b words
pasted_words press words = pasted_name press words
