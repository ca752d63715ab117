-- What events and presses were, as far as an undo takes others back with them: words that were typed go back whole, and what
-- only moved something goes back with what was done before it.
use Rattle.std.specs.Prelude.{ℕ, Bool, true, false, ◌==◌, ◌||◌, not, if◌then◌else◌, List, [], ◌∷◌}
use Rattle.event_bytes.specs.declared.event.Event.{Event}
use Rattle.event_bytes.specs.declared.event.Event.TheVariants.{Typed, Key, Mark, Point, File}
use Rattle.event_bytes.specs.declared.keys.Keys.{Keys}
use Rattle.event_bytes.specs.declared.keys.Keys.TheVariants.{Left, Middle, Right}
use Rattle.viewer_tracks.specs.declared.display.Track.TheVariants.{System, User}
use Rattle.viewer_tracks.specs.Display.{left_of}
use Rattle.done_presses.specs.declared.kind.PressKind.{PressKind}
use Rattle.done_presses.specs.declared.kind.PressKind.TheVariants.{Word, Gap, Moves, Selects, Alone}

-- a blank, a TAB or an end of a line
abbrev pub ends_word : ℕ → Bool
ends_word code = (code == 32) || (code == 9) || (code == 13)

-- One character goes on with a word, or ends it. More of them at one time stand alone.
abbrev pub kind_typed : List ℕ → PressKind
kind_typed (code ∷ []) = if ends_word code then Gap else Word
kind_typed _ = Alone

-- the columns in which viewers have their scroll bars
abbrev pub is_of_bars : ℕ → Bool
is_of_bars x = (x == left_of User) || (x == left_of System)

-- what moves the caret, a selection or a text in its viewer: the left button where it stays in its row, the right one, and
-- the middle one in a scroll bar
abbrev pub only_moves : Keys → ℕ → ℕ → ℕ → Bool
only_moves Left x0 y0 y1 = y0 == y1
only_moves Right x0 y0 y1 = true
only_moves Middle x0 y0 y1 = is_of_bars x0
only_moves _ x0 y0 y1 = false

-- what selects something: the right button, but in a scroll bar
abbrev pub selects_at : Keys → ℕ → Bool
selects_at Right x0 = not (is_of_bars x0)
selects_at _ x0 = false

abbrev pub kind_pointed : Keys → ℕ → ℕ → ℕ → PressKind
kind_pointed keys x0 y0 y1 = if selects_at keys x0 then Selects
    else (if only_moves keys x0 y0 y1 then Moves else Alone)

abbrev pub kind_of : Event → PressKind
kind_of (Typed bytes) = kind_typed bytes
kind_of (Key key) = Alone
kind_of (Mark x y) = Alone
kind_of (Point keys x0 y0 x1 y1) = kind_pointed keys x0 y0 y1
kind_of (File name bytes) = Alone

-- of a paste each event stands alone
abbrev pub kind_posted : Bool → Event → PressKind
kind_posted pastes event = if pastes then Alone else kind_of event

abbrev pub types_word : PressKind → Bool
types_word Word = true
types_word _ = false

abbrev pub types_gap : PressKind → Bool
types_gap Gap = true
types_gap _ = false

-- a word goes on with letters and ends with the blanks behind it
abbrev pub word_goes_on : PressKind → PressKind → Bool
word_goes_on Word next = types_word next || types_gap next
word_goes_on Gap next = types_gap next
word_goes_on _ next = false

-- behind a blank that a press typed it may move and type on, as where it breaks a line
abbrev pub after_gap : PressKind → PressKind
after_gap Word = Word
after_gap Gap = Gap
after_gap Moves = Gap
after_gap Selects = Gap
after_gap Alone = Alone

-- a press of this kind that posts an event more of that one: what it does after it moved, or what it types
abbrev pub kind_with : PressKind → PressKind → PressKind
kind_with Moves next = next
kind_with Selects next = next
kind_with Word next = if word_goes_on Word next then next else Alone
kind_with Gap next = after_gap next
kind_with Alone next = Alone

abbrev pub is_moving : PressKind → Bool
is_moving Moves = true
is_moving Selects = true
is_moving _ = false

-- whether it selected something last
abbrev pub is_selecting : PressKind → Bool
is_selecting Selects = true
is_selecting _ = false

-- and one with what only moved something behind it
abbrev pub kind_moved : PressKind → PressKind
kind_moved kind = if is_moving kind then Moves else Alone
