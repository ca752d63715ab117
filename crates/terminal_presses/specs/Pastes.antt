-- What is pasted, and the events that type it.
use Rattle.std.specs.Prelude.{ℕ, ◌+◌, Bool, true, false, ◌==◌, ◌&&◌, not, nat_lt, if◌then◌else◌, List, [], ◌∷◌, ◌++◌}
use Rattle.std.specs.Prelude.{length}
use Rattle.std.specs.Prelude.{Option, Some, None}
use Rattle.event_bytes.specs.Bytes.{is_text_byte, is_typed_bytes}
pub use Rattle.event_bytes.specs.Bytes.{line_feed, question_mark}
use Rattle.event_bytes.specs.declared.event.Event.TheVariants.{Typed}
use Rattle.terminal_presses.specs.declared.press.Press.{Press}
use Rattle.terminal_presses.specs.declared.press.Press.TheVariants.{Character, Foreign, Control, Back, Delete, Escape}
use Rattle.terminal_presses.specs.declared.press.Press.TheVariants.{Arrow}
use Rattle.terminal_presses.specs.declared.press.Press.TheVariants.{Page, Function, Mouse, PasteBegins, PasteEnds, Size}
use Rattle.terminal_presses.specs.declared.press.Press.TheVariants.{Leap, Scroll, Wheel, FileFails, Unknown}
use Rattle.terminal_presses.specs.declared.action.Action.{Action}
use Rattle.terminal_presses.specs.declared.action.Action.TheVariants.{Nothing, Post, Fit}
use Rattle.terminal_presses.specs.declared.paste.Paste.{Paste}

abbrev pub return : ℕ
return = 13

-- the event that types the bytes; nothing where there are none, or they can't be typed
unfoldable pub typing_action : List ℕ → Action
typing_action bytes = if is_typed_bytes bytes then Post (Typed bytes) else Nothing

-- with a byte more 900 of them are an event, and none are left
unfoldable pub added : ℕ → List ℕ → List ℕ × Action
added b bytes =
    if nat_lt (length bytes + 1) 900 then (bytes ++ b ∷ [], Nothing)
    else ([], typing_action (bytes ++ b ∷ []))

-- a byte that can't be typed is a question mark
unfoldable pub in_profile : ℕ → ℕ
in_profile b = if is_text_byte b then b else question_mark

-- what a press is within what is pasted: a byte, of which just a line feed and those of the profile are told apart, or
-- nothing that was pasted
unfoldable pub pasted_byte : Press → Option ℕ
pasted_byte (Character b) = Some b
pasted_byte Foreign = Some question_mark
pasted_byte (Control b) = Some b
pasted_byte Back = Some question_mark
pasted_byte Delete = None
pasted_byte Escape = Some question_mark
pasted_byte (Arrow arrow) = None
pasted_byte (Leap arrow) = None
pasted_byte (Scroll scroll) = None
pasted_byte (Page page) = None
pasted_byte (Function key) = None
pasted_byte (Mouse report) = None
pasted_byte (Wheel report) = None
pasted_byte PasteBegins = None
pasted_byte PasteEnds = None
pasted_byte (Size rows columns) = None
pasted_byte FileFails = None
pasted_byte Unknown = None

-- whether a byte of it becomes a question mark
abbrev pub is_unfit : ℕ → Bool
is_unfit b = not (b == line_feed) && not (is_text_byte b)

-- whether a press is a character of it that becomes one
unfoldable pub becomes_mark : Press → Bool
becomes_mark (Character b) = is_unfit b
becomes_mark Foreign = true
becomes_mark (Control b) = is_unfit b
becomes_mark Back = true
becomes_mark Escape = true
becomes_mark _ = false

abbrev pub new_paste : Paste
new_paste = record { after_return = false; bytes = []; drops = false }

-- the rest of it comes to nothing, and so does what is in no event yet
abbrev pub dropped : Paste → Paste
dropped paste = record { after_return = false; bytes = []; drops = true }

-- a byte to be typed, and whether it was a carriage return
unfoldable pub with_byte : ℕ → Bool → Paste → Paste × Action
with_byte b is_return paste = let next = added b paste.bytes in
    (record { after_return = is_return; bytes = next.0; drops = paste.drops }, next.1)

-- a line feed right after a carriage return is nothing, and another one is a carriage return
unfoldable pub after_line_feed : Paste → Paste × Action
after_line_feed paste =
    if paste.after_return then (record paste { after_return = false }, Nothing)
    else with_byte return false paste

unfoldable pub pasted_more : ℕ → Paste → Paste × Action
pasted_more b paste = if b == line_feed then after_line_feed paste
    else with_byte (in_profile b) (b == return) paste

abbrev pub pasted_if_any : Option ℕ → Paste → Paste × Action
pasted_if_any None paste = (paste, Nothing)
pasted_if_any (Some b) paste = pasted_more b paste

-- what a press comes to while a text is pasted; the terminal's size is no part of that
unfoldable pub pasted_on : Press → Paste → Paste × Action
pasted_on (Size rows columns) paste = (paste, Fit rows columns)
pasted_on press paste = if paste.drops then (paste, Nothing)
    else pasted_if_any (pasted_byte press) paste
