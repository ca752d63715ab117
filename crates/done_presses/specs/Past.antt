-- What the presses of a sitting did, as far as they can be taken back, in the steps in which they are.
use Rattle.std.specs.Prelude.{ℕ, ◌+◌, ◌-◌, ◌^◌, Bool, true, false, ◌==◌, ◌&&◌, ◌||◌, nat_le, if◌then◌else◌}
use Rattle.std.specs.Prelude.{List, [], ◌∷◌, ◌++◌, length, min}
use Rattle.std.specs.Prelude.{take, remove}
use Rattle.std.specs.Prelude.{Option, Some, None, slice_get}
use Rattle.event_bytes.specs.declared.event.Event.{Event}
use Rattle.status_line.specs.declared.deed.Deed.{Deed}
use Rattle.status_line.specs.declared.deed.Deed.TheVariants.{Part}
use Rattle.done_presses.specs.declared.past.DonePress.{DonePress}
use Rattle.done_presses.specs.Kinds.{is_moving, is_selecting, kind_moved, kind_posted, kind_with, word_goes_on}
use Rattle.done_presses.specs.declared.kind.PressKind.{PressKind}
use Rattle.done_presses.specs.declared.past.TheConstants.{MOST_DONE}
use Rattle.status_line.specs.Deeds.{deed_of, deed_with}

pub record PastView : Type 0 where
  -- those that changed something, of which the last stands last
  pub presses : List DonePress
  -- how many events were refused before the first of them
  pub refused : ℕ
  -- the press that was done last went on with a word that was typed before it
  pub goes_on : Bool

abbrev pub no_past : PastView
no_past = record { presses = []; refused = 0; goes_on = false }

-- no press is known, and no event that was refused
abbrev pub knows_none : PastView → Bool
knows_none past = (length past.presses == 0) && (past.refused == 0)

abbrev pub last_press : PastView → Option DonePress
last_press past = slice_get past.presses (length past.presses - 1)

abbrev pub but_last_press : PastView → PastView
but_last_press past = record past { presses = take (length past.presses - 1) past.presses }

-- whether the press that was done last selected something last
abbrev pub selects_by : Option DonePress → Bool
selects_by None = false
selects_by (Some press) = is_selecting press.kind

abbrev pub selects : PastView → Bool
selects past = selects_by (last_press past)

-- so many, as far as that is counted
abbrev pub counted : ℕ → ℕ
counted n = min n (2 ^ 32 - 1)

abbrev pub one_more_of : ℕ → ℕ
one_more_of n = counted (n + 1)

abbrev pub continues : Option DonePress → PressKind → Bool
continues None kind = false
continues (Some press) kind = word_goes_on press.kind kind

-- ---- an event

-- a press that posted an event more
abbrev pub with_event : Option DonePress → PressKind → Event → DonePress
with_event None kind event = record { events = 1; deed = deed_of event; kind = kind }
with_event (Some press) kind event = record {
  events = one_more_of press.events;
  deed = deed_with event press.deed;
  kind = kind_with press.kind kind;
}

-- of as many as there may be the oldest is forgotten
abbrev pub with_room : {A : Type 0} → ℕ → List A → List A
with_room most presses = if length presses == most then remove presses 0 else presses

unfoldable pub pushed : DonePress → PastView → PastView
pushed press past = record past { presses = with_room MOST_DONE past.presses ++ press ∷ [] }

-- what only moved something goes with the press before it, if there is one
abbrev pub with_moves : DonePress → DonePress → DonePress
with_moves press moves = record press {
  events = counted (press.events + moves.events);
  kind = kind_moved press.kind;
}

abbrev pub moved_on : Option DonePress → DonePress → PastView → PastView
moved_on None moves past = pushed moves past
moved_on (Some press) moves past = pushed (with_moves press moves) past

abbrev pub gathered_from : Option DonePress → PastView → PastView
gathered_from None past = past
gathered_from (Some press) past =
    if is_moving press.kind then moved_on (last_press past) press (but_last_press past)
    else pushed press past

unfoldable pub gathered : PastView → PastView
gathered past = gathered_from (last_press past) (but_last_press past)

-- An event is one of the last press, or goes on with its word; else of a press of its own.
abbrev pub past_with : Bool → PressKind → Event → PastView → PastView
past_with true kind event past =
    pushed (with_event (last_press past) kind event) (but_last_press past)
past_with false kind event past = pushed (with_event None kind event) (gathered past)

abbrev pub past_posted : Bool → PressKind → Event → PastView → PastView
past_posted joins kind event past =
    let goes_on : Bool = continues (last_press past) kind in
    past_with (joins || goes_on) kind event
    (record past { goes_on = if joins then past.goes_on else goes_on })

-- an event was done, amid a press or at its beginning, of a paste or not
unfoldable pub past_after : Bool → Bool → Event → PastView → PastView
past_after joins pastes event past = past_posted joins (kind_posted pastes event) event past

-- each of these events was a press of its own
abbrev pub past_of : List Event → PastView → PastView
past_of [] past = past
past_of (event ∷ events) past = past_of events (past_after false false event past)

abbrev pub refused_after : Option DonePress → PastView → PastView
refused_after None past = record past { refused = one_more_of past.refused }
refused_after (Some press) past = pushed (record press { events = one_more_of press.events }) past

-- an event was refused: it changes nothing, and goes with the press before it
unfoldable pub with_refused : PastView → PastView
with_refused past = refused_after (last_press past) (but_last_press past)

abbrev pub press_named : Option DonePress → Deed → PastView → PastView
press_named None deed past = past
press_named (Some press) deed past = pushed (record press { deed = deed }) past

-- the press that was done last did this; what goes on with a word has the name of that
unfoldable pub named : Deed → PastView → PastView
named deed past = if past.goes_on then past
    else press_named (last_press past) deed (but_last_press past)

-- ---- taking back

-- how many events are taken back next: those of the last press, or else the last one that wasn't refused
abbrev pub count_of : Option DonePress → ℕ → ℕ
count_of None refused = one_more_of refused
count_of (Some press) refused = press.events

unfoldable pub back_count : PastView → ℕ
back_count past = count_of (last_press past) past.refused

-- so many of its events were taken back, and others weren't
abbrev pub left_of_press : ℕ → Option DonePress → PastView → PastView
left_of_press n None past = record past { refused = past.refused - n }
left_of_press n (Some press) past =
    if nat_le press.events n then past else pushed (record press { events = press.events - n }) past

unfoldable pub left_past : ℕ → PastView → PastView
left_past n past = left_of_press (counted n) (last_press past) (but_last_press past)

abbrev pub first_deed : List Event → Deed
first_deed [] = Part
first_deed (event ∷ more) = deed_of event

-- what these events did, which were taken back; where no press is known, nothing, if all of them were refused
abbrev pub deed_back : List Event → Option DonePress → ℕ → Option Deed
deed_back events None refused =
    if nat_le (counted (length events)) refused then None else Some (first_deed events)
deed_back events (Some press) refused =
    if nat_le press.events (counted (length events)) then Some press.deed else Some Part

unfoldable pub back_deed : List Event → PastView → Option Deed
back_deed events past = deed_back events (last_press past) past.refused
