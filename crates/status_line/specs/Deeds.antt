-- What a press did, in words.
use Rattle.std.specs.Prelude.{ℕ, ◌+◌, ◌-◌, ◌^◌, Bool, true, false, ◌==◌, if◌then◌else◌, List, codes, length, min}
use Rattle.event_bytes.specs.declared.event.Event.{Event}
use Rattle.event_bytes.specs.declared.event.Event.TheVariants as event
use Rattle.event_bytes.specs.declared.keys.Key.{Key as KeyPressed}
use Rattle.event_bytes.specs.declared.keys.Key.TheVariants.{Back, Copy, Paste, Cut, Escape}
use Rattle.event_bytes.specs.declared.keys.Keys.{Keys as MouseKeys}
use Rattle.event_bytes.specs.declared.keys.Keys.TheVariants.{Left, LeftMiddle, LeftRight, Middle, MiddleLeft}
use Rattle.event_bytes.specs.declared.keys.Keys.TheVariants.{MiddleRight, Right, RightLeft, RightMiddle}
use Rattle.status_line.specs.declared.deed.Deed.{Deed}
use Rattle.status_line.specs.declared.deed.Deed.TheVariants.{Typed, Key, Mark, Click, Call, Store, Search, Scroll}
use Rattle.status_line.specs.declared.deed.Deed.TheVariants.{File, Import, Replacement, Paragraph, Delete, Part}

abbrev pub is_middle : MouseKeys → Bool
is_middle Middle = true
is_middle _ = false

-- the middle key calls the word at a cell
abbrev pub click_deed : MouseKeys → ℕ → ℕ → Deed
click_deed keys x y = if is_middle keys then Call x y else Click keys

abbrev pub deed_of : Event → Deed
deed_of (event.Typed bytes) = Typed (length bytes)
deed_of (event.Key key) = Key key
deed_of (event.Mark x y) = Mark
deed_of (event.Point keys x0 y0 x1 y1) = click_deed keys x0 y0
deed_of (event.File name bytes) = File

-- how many characters an event types
abbrev pub length_typed : Event → ℕ
length_typed (event.Typed bytes) = length bytes
length_typed _ = 0

-- so many more are typed, as far as that is counted
abbrev pub typed_more : Event → ℕ → ℕ
typed_more e n = min (n + length_typed e) (2 ^ 32 - 1)

-- what a press did that did this, once it posted an event more
abbrev pub deed_with : Event → Deed → Deed
deed_with e (Typed n) = Typed (typed_more e n)
deed_with e deed = deed

-- the key that deletes what is behind the caret, and the one that deletes what is before it
abbrev pub erasing_deed : Bool → Deed
erasing_deed behind = if behind then Delete else Key Back

abbrev pub key_deed : KeyPressed → List ℕ
key_deed Back = codes "a Backspace"
key_deed Copy = codes "a copy"
key_deed Paste = codes "a paste"
key_deed Cut = codes "a cut"
key_deed Escape = codes "Escape"

abbrev pub keys_deed : MouseKeys → List ℕ
keys_deed Left = codes "the caret, or a viewer that was dragged"
keys_deed Middle = codes "a command"
keys_deed Right = codes "a selection"
keys_deed LeftMiddle = codes "a copy to the caret"
keys_deed LeftRight = codes "a look"
keys_deed RightLeft = codes "what was deleted"
keys_deed RightMiddle = codes "what was copied"
keys_deed MiddleLeft = codes "a click"
keys_deed MiddleRight = codes "a click"

abbrev pub typed_words : ℕ → List ℕ
typed_words n = if n == 1 then codes " character" else codes " characters"

abbrev pub import_words : ℕ → List ℕ
import_words n = if n == 1 then codes " document" else codes " documents"

-- the words for it, but for the number of characters or documents and for the word that was called
abbrev pub deed_words : Deed → List ℕ
deed_words (Typed n) = typed_words n
deed_words (Key key) = key_deed key
deed_words Mark = codes "the marker"
deed_words (Click keys) = keys_deed keys
deed_words (Call x y) = codes "a command"
deed_words Store = codes "Edit.Store"
deed_words Search = codes "Edit.Search"
deed_words Scroll = codes "a scroll"
deed_words File = codes "a file"
deed_words (Import n) = import_words n
deed_words Replacement = codes "a replacement"
deed_words Paragraph = codes "the paragraph"
deed_words Delete = codes "a Delete"
deed_words Part = codes "a part of it, and the rest can't be"
