-- What the steps of a post and of a checkpoint have written.
use Rattle.std.specs.Prelude.{◌≡◌, ◌⊎◌, ◌<◌, ◌≤◌, ◌+◌, ℕ, List, [], length, Bool, false}
use Rattle.store_slots.specs.Beside.{StandsBeside, StandsOneOf}
use Rattle.sector_disk.specs.declared.disk.Disk.{Ghosts}
use Rattle.sector_disk.specs.Trail.{Moment, Trail, now, LeavesOnly}
use Rattle.char_pages.specs.Pages.{saved_sectors, renewed_of}
use Rattle.event_bytes.specs.declared.event.Event.{Event}
use Rattle.event_bytes.specs.Spelling.{BeginsWithEvent}
use Rattle.desktop_definitions.specs.declared.reply.Reply.{Reply}
use Rattle.desktop_definitions.specs.Desktop.{Desktop}
use Rattle.store_layout.specs.declared.layout.TheConstants.{JOURNAL_EVENTS, LAYOUT, SLOTS, STORE_SECTORS}
use Rattle.store_layout.specs.declared.head.PastEnd.{PastEnd}
use Rattle.store_layout.specs.Layout.{is_open, slot_gate, gate, body, head}
use Rattle.store_layout.specs.Meaning.{MeansEither, Standing, Stands, and_then, full_sectors}
use Rattle.store_layout.specs.Kept.{NextRecord, InCheckpoint, IsNewSlot, ShowsSettled, IsFront, IsSettled, SparesArea, chosen_area}
use Rattle.store_slots.specs.declared.live.LiveDesktop.{LiveDesktop}
use Rattle.store_slots.specs.declared.place.SlotPlace.{SlotPlace}
use Rattle.store_slots.specs.Live.{IsLive, IsLiveIn, IsLiveStep, seen_live}

-- nothing is pending, and event k of the journal stands before a closed gate, where there is one
pub record HasRecord (m : Moment) (slot k : ℕ) (event : Event) : Type 0 where
  pub quiet : (n : ℕ) → m.pending n ≡ false
  pub begins : BeginsWithEvent (m.reads (body slot k)) event
  pub closed : k + 1 < JOURNAL_EVENTS → is_open (m.reads (gate slot (k + 1))) ≡ false

-- there is such a slot in a store
pub record HasSlot (size slot : ℕ) : Type 0 where
  pub room : STORE_SECTORS ≤ size
  pub two : slot < SLOTS

-- there is such a gate in the journal of a slot of a store
pub record IsInJournal (size slot k : ℕ) : Type 0 where
  pub room : STORE_SECTORS ≤ size
  pub two : slot < SLOTS
  pub index : k < JOURNAL_EVENTS

-- a journal of so many events stands in a slot of a store
pub record HasJournalTo (size slot count : ℕ) : Type 0 where
  pub room : STORE_SECTORS ≤ size
  pub two : slot < SLOTS
  pub index : count ≤ JOURNAL_EVENTS

-- where event k goes, and its gate
abbrev pub InRecord : ℕ → ℕ → ℕ → Type 0
InRecord slot k n = NextRecord slot k n ⊎ (n ≡ gate slot k)

-- nothing is pending, and the gate of the slot is open, or it is closed
pub record HasGate (m : Moment) (slot : ℕ) (opened : Bool) : Type 0 where
  pub quiet : (n : ℕ) → m.pending n ≡ false
  pub is : is_open (m.reads (slot_gate slot)) ≡ opened

-- Nothing is pending, and the slot is a new one of this version and epoch with this desktop, whose head names the whole
-- sectors of its characters in this area, and tells of this past.
pub record IsFilled (m : Moment) (slot version area number : ℕ) (past : PastEnd)
    (characters : List ℕ)
    (desktop : Desktop) : Type 0 where
  pub quiet : (n : ℕ) → m.pending n ≡ false
  pub new : IsNewSlot m.reads slot version number past desktop
  pub front : IsFront m.reads slot area (full_sectors (length characters)) characters

-- The disk shows the desktop by the slot beside this place, of whatever version and under the epoch before, and that
-- slot's head names no sector that comes behind those that hold characters already.
pub record IsBeside (place : SlotPlace) (size : ℕ) (disk : Trail) (live version number count : ℕ)
    (desktop : Desktop)
    : Type 0 where
  pub two : live + place.slot ≡ 1
  pub next : number + 1 ≡ place.epoch
  pub kept : ShowsSettled size disk live version number count desktop
  pub spares : SparesArea (head (now disk).reads live) place.area place.saved

-- its characters go on where those of this desktop on the disk end, or begin anew in the other area, where all were
-- exchanged
pub record ContinuesArea (place : SlotPlace) (live : LiveDesktop) : Type 0 where
  pub area_is : place.area ≡ chosen_area (renewed_of live.pages) live.area
  pub saved_is : place.saved ≡ saved_sectors live.pages

-- what a checkpoint writes: the gate of the slot, and what stands behind it
abbrev pub InRenewal : SlotPlace → ℕ → Type 0
InRenewal place n = (n ≡ slot_gate place.slot) ⊎ InCheckpoint place.slot place.area place.saved n

-- The disk has room for a store, and this place goes on where the characters of the desktop end.
pub record CanRenew (size : ℕ) (place : SlotPlace) (desktop : LiveDesktop) : Type 0 where
  pub room : STORE_SECTORS ≤ size
  pub live : IsLive desktop
  pub goes : ContinuesArea place desktop

-- a desktop at the beginning of the next journal, in the other slot, whose head tells of this past
abbrev pub anew_from : Standing → ℕ → PastEnd → Desktop → Standing
anew_from s slot past desktop = record {
  slot = slot;
  version = LAYOUT;
  epoch = s.epoch + 1;
  past = past;
  start = desktop;
  events = [];
}

module _ {D : Type 0} (d : Ghosts D) (place : SlotPlace) where
  -- At each moment a crash leaves the desktop that the disk shows by the slot beside the place, whatever it is, or this
  -- one, which comes to the place.
  abbrev pub KeepsShown : LiveDesktop → D → D → Type 0
  KeepsShown desktop old new =
      d.honest old → (live version number count : ℕ) (before : Desktop)
      → IsBeside place (d.size old) (d.trail old) live version number count before
      → LeavesOnly (d.trail old) (d.trail new)
      (MeansEither (d.size old) before (seen_live (now (d.trail old)).reads desktop))

  -- At each moment a crash leaves what the disk shows, or this desktop at the beginning of the next journal.
  abbrev pub KeepsStandings : LiveDesktop → D → D → Type 0
  KeepsStandings desktop old new =
      d.honest old → (live version number count : ℕ) (before : Desktop)
      → (was : IsBeside place (d.size old) (d.trail old) live version number count before)
      → LeavesOnly (d.trail old) (d.trail new)
      (StandsOneOf (d.size old) was.kept.standing (anew_from was.kept.standing place.slot place.past
      (seen_live (now (d.trail old)).reads desktop)))

  pub record KeepsEither (desktop : LiveDesktop) (old new : D) : Type 0 where
    pub shown : KeepsShown desktop old new
    pub standings : KeepsStandings desktop old new

  -- A desktop was shown by the slot beside the place. Now the slot at the place shows this one, in the newest version.
  abbrev pub ShowsAnew : D → D → Desktop → Type 0
  ShowsAnew old new shown = d.honest old → (live version number count : ℕ) (before : Desktop)
      → IsBeside place (d.size old) (d.trail old) live version number count before
      → ShowsSettled (d.size old) (d.trail new) place.slot LAYOUT place.epoch 0 shown

  -- This desktop stands at the beginning of the next journal.
  abbrev pub StandsAnew : LiveDesktop → D → D → Type 0
  StandsAnew desktop old new =
      d.honest old → (live version number count : ℕ) (before : Desktop)
      → (was : IsBeside place (d.size old) (d.trail old) live version number count before)
      → Stands (d.size old) (now (d.trail new)).reads (anew_from was.kept.standing place.slot
      place.past (seen_live (now (d.trail old)).reads desktop))

  -- The slot that was in use stands beside the place as it was.
  abbrev pub LeavesBeside : D → D → Type 0
  LeavesBeside old new =
      d.honest old → (live version number count : ℕ) (before : Desktop)
      → (was : IsBeside place (d.size old) (d.trail old) live version number count before)
      → StandsBeside (now (d.trail new)).reads place.slot was.kept.standing

  -- The desktop has come to the place, and this is seen of it.
  pub record IsAnew (desktop : LiveDesktop) (old new : D) (seen : Desktop) : Type 0 where
    pub shown : ShowsAnew old new seen
    pub stands : StandsAnew desktop old new
    pub beside : LeavesBeside old new

-- Nothing is pending, and the disk shows this standing of this slot, which has an event under gate k.
pub record HasEventAt (size : ℕ) (disk : Trail) (slot k : ℕ) (s : Standing) : Type 0 where
  pub settled : IsSettled size disk s
  pub slot_is : s.slot ≡ slot
  pub more : k < length s.events

-- Nothing is pending, and the disk shows this standing of this slot, with events up to gate k.
pub record IsUpTo (size : ℕ) (disk : Trail) (slot k : ℕ) (s : Standing) : Type 0 where
  pub settled : IsSettled size disk s
  pub slot_is : s.slot ≡ slot
  pub count : length s.events ≡ k

-- The event was stepped with this reply, and stands in the journal of this slot behind its first k events: the disk shows
-- the desktop that is live now.
pub record IsRecorded {D : Type 0} (d : Ghosts D) (slot k : ℕ) (event : Event) (disk disk' : D)
    (old new : LiveDesktop) (reply : Reply)
    : Type 0 where
  pub stepped : IsLiveStep d LAYOUT event disk disk' old new reply
  pub left : IsLiveIn d slot disk disk' old new
  pub added : d.honest disk → (number : ℕ)
      → ShowsSettled (d.size disk) (d.trail disk) slot LAYOUT number k
      (seen_live (now (d.trail disk)).reads old)
      → ShowsSettled (d.size disk) (d.trail disk') slot LAYOUT number (k + 1)
      (seen_live (now (d.trail disk')).reads new)
  pub behind : d.honest disk → (s : Standing) → IsUpTo (d.size disk) (d.trail disk) slot k s
      → IsSettled (d.size disk) (d.trail disk') (and_then s event)
