-- What the replies of a store depend on: its desktop, its epoch, and how many events its journal has.
use Rattle.std.specs.Prelude.{◌≡◌, ◌⊎◌, ◌<◌, ◌≤◌, ℕ, ◌+◌, Bool, ◌&&◌, ◌==◌, not, nat_lt, if◌then◌else◌}
use Rattle.event_bytes.specs.declared.event.Event.{Event}
use Rattle.desktop_definitions.specs.Desktop.{Desktop}
use Rattle.desktop_definitions.specs.Step.{step}
use Rattle.store_layout.specs.declared.layout.TheConstants.{JOURNAL_EVENTS, LAST_EPOCH, LAYOUT}
use Rattle.desk_journal.specs.View.{StoreView}

pub record Session : Type 0 where
  pub desktop : Desktop
  pub layout : ℕ
  pub epoch : ℕ
  pub events : ℕ

abbrev pub session_of : {D : Type 0} → StoreView D → Session
session_of store = record {
  desktop = store.desktop;
  layout = store.layout;
  epoch = store.epoch;
  events = store.events;
}

-- the journal has room for an event, and the slot in use has the newest version
abbrev pub has_journal_room : Session → Bool
has_journal_room s = nat_lt s.events JOURNAL_EVENTS && s.layout == LAYOUT

abbrev pub HasRoomIn : Session → Type 0
HasRoomIn s = (s.events < JOURNAL_EVENTS) × (s.layout ≡ LAYOUT)

-- a checkpoint is due before the next event
abbrev pub is_due : Session → Bool
is_due s = not (has_journal_room s)

abbrev pub IsDue : Session → Type 0
IsDue s = (JOURNAL_EVENTS ≤ s.events) ⊎ ¬ (s.layout ≡ LAYOUT)

-- no epoch comes after this one
abbrev pub is_last : Session → Bool
is_last s = s.epoch == LAST_EPOCH

-- a checkpoint is due, and there is no next epoch
abbrev pub is_worn : Session → Bool
is_worn s = is_due s && is_last s

-- the next epoch, in the newest version and with an empty journal
abbrev pub renewed : Session → Session
renewed s = record { desktop = s.desktop; layout = LAYOUT; epoch = s.epoch + 1; events = 0 }

-- an event is stepped, and stands in the journal, whatever its reply
abbrev pub stepped : Session → Event → Session
stepped s event = record {
  desktop = (step s.desktop event).desktop;
  layout = s.layout;
  epoch = s.epoch;
  events = s.events + 1;
}

-- The session after an event was posted. Where a checkpoint is due it goes into the next journal, and a worn store
-- takes none.
abbrev pub taken : Session → Event → Session
taken s event = if is_worn s then s else stepped (if is_due s then renewed s else s) event
