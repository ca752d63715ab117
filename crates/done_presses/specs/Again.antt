-- What was taken back, as far as it can be done again.
use Rattle.std.specs.Prelude.{◌-◌, ℕ, zero, suc, max, drop, Bool, ◌==◌, ◌&&◌, not, nat_le, if◌then◌else◌, List, [], ◌∷◌, ◌++◌, length, take}
use Rattle.std.specs.Prelude.{Option, Some, None, option_map, reverse, slice_get}
use Rattle.event_bytes.specs.declared.event.Event.{Event}
use Rattle.status_line.specs.declared.deed.Deed.{Deed}
use Rattle.done_presses.specs.declared.again.NextEvent.{NextEvent}
use Rattle.done_presses.specs.declared.again.StorePlace.{StorePlace}
use Rattle.done_presses.specs.declared.again.TheConstants.{FIRST_EPOCH, MOST_AGAIN}
use Rattle.status_line.specs.declared.deed.Deed.TheVariants.{Part}
use Rattle.done_presses.specs.Past.{PastView, back_count, back_deed, gathered, left_past, no_past, past_of, with_room}

pub record TakenPressView : Type 0 where
  -- the next to be done again stands last
  pub events : List Event
  pub deed : Deed

pub record AgainView : Type 0 where
  -- the next to be done again stands last
  pub presses : List (Option TakenPressView)
  -- to which taking them back has led
  pub place : StorePlace

-- nobody has done anything before this epoch
abbrev pub is_first : StorePlace → Bool
is_first place = nat_le place.epoch FIRST_EPOCH

abbrev pub no_again : AgainView
no_again = record { presses = []; place = record { epoch = 0; events = 0 } }

-- a press of which these events were taken back, in their order
abbrev pub taken_press : List Event → Deed → TakenPressView
taken_press events deed = record { events = reverse events; deed = deed }

abbrev pub holds_at : StorePlace → AgainView → Bool
holds_at place a = (a.place.epoch == place.epoch) && (a.place.events == place.events)

-- those that can be done again at this place
abbrev pub presses_at : StorePlace → AgainView → List (Option TakenPressView)
presses_at place a = if holds_at place a then a.presses else []

-- whether there is any
abbrev pub has_again : StorePlace → AgainView → Bool
has_again place a = holds_at place a && not (length a.presses == 0)

-- what led from one place to another changed nothing: what could be done again there can be done here
unfoldable pub carried_again : StorePlace → StorePlace → AgainView → AgainView
carried_again from to a = record a { presses = presses_at from a; place = to }

-- a press more; of as many as there may be the oldest is forgotten
abbrev pub with_press : TakenPressView → AgainView → AgainView
with_press press a = record a { presses = with_room MOST_AGAIN a.presses ++ Some press ∷ [] }

unfoldable pub kept_at : TakenPressView → StorePlace → StorePlace → AgainView → AgainView
kept_at press from to a =
    record (with_press press (record a { presses = presses_at from a })) { place = to }

-- ---- of events

-- events that are to be taken back, the presses of which they are, and what was taken back so far
pub record Unmade : Type 0 where
  pub events : List Event
  pub past : PastView
  pub again : AgainView

abbrev pub unmade : List Event → PastView → AgainView → Unmade
unmade events past a = record { events = events; past = past; again = a }

abbrev pub deed_or_part : Option Deed → Deed
deed_or_part None = Part
deed_or_part (Some deed) = deed

-- the press of these events, which are taken back
abbrev pub press_back : List Event → PastView → TakenPressView
press_back events past = taken_press events (deed_or_part (back_deed events past))

-- the events from this one on are taken back
abbrev pub back_from : ℕ → PastView → Unmade → Unmade
back_from first past u = record {
  events = take first u.events;
  past = left_past (length (drop first u.events)) past;
  again = with_press (press_back (drop first u.events) past) u.again;
}

-- the last press is taken back, if any event is left
unfoldable pub one_back : Unmade → Unmade
one_back u = if length u.events == 0 then u
    else back_from (length u.events - max (back_count (gathered u.past)) 1) (gathered u.past) u

-- so many presses, one after another
abbrev pub many_back : ℕ → Unmade → Unmade
many_back zero u = u
many_back (suc n) u = one_back (many_back n u)

-- these events were taken back, each of which was a press of its own, and that has led to this place
unfoldable pub again_of : List Event → StorePlace → AgainView
again_of events place =
    record (many_back (length events) (unmade events (past_of events no_past) no_again)).again {
      place = place;
    }

-- ---- event by event

-- how many events of a press are left behind the next one
abbrev pub events_behind : TakenPressView → List Event
events_behind press = take (length press.events - 1) press.events

abbrev pub next_with : TakenPressView → Event → NextEvent
next_with press event = record {
  event = event;
  deed = press.deed;
  is_last = length (events_behind press) == 0;
}

abbrev pub next_of_press : TakenPressView → Option NextEvent
next_of_press press =
    option_map (next_with press) (slice_get press.events (length press.events - 1))

-- what is left of a press is put back, unless its last event was taken off
abbrev pub put_back : Option NextEvent → TakenPressView → AgainView → AgainView
put_back None press a = a
put_back (Some event) press a = if event.is_last then a else with_press press a

abbrev pub with_rest : TakenPressView → AgainView → AgainView
with_rest press a = put_back (next_of_press press) (record press { events = events_behind press }) a

abbrev pub last_at : StorePlace → AgainView → Option (Option TakenPressView)
last_at place a = slice_get (presses_at place a) (length (presses_at place a) - 1)

abbrev pub but_last_at : StorePlace → AgainView → AgainView
but_last_at place a =
    record a { presses = take (length (presses_at place a) - 1) (presses_at place a) }

abbrev pub next_by : Option (Option TakenPressView) → Option NextEvent
next_by None = None
next_by (Some None) = None
next_by (Some (Some press)) = next_of_press press

unfoldable pub next_event : StorePlace → AgainView → Option NextEvent
next_event place a = next_by (last_at place a)

abbrev pub rest_by : Option (Option TakenPressView) → AgainView → AgainView
rest_by None a = a
rest_by (Some None) a = a
rest_by (Some (Some press)) a = with_rest press a

unfoldable pub rest_at : StorePlace → AgainView → AgainView
rest_at place a = rest_by (last_at place a) (but_last_at place a)
