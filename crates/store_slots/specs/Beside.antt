-- What the slot beside the one in use shows, from which that one was made, and what is left where the last events are taken
-- back.
use Rattle.std.specs.Prelude.{◌≡◌, ◌⊎◌, ◌+◌, ◌-◌, ◌<◌, ◌≤◌, [], ◌∷◌, ◌++◌, ℕ, true, List, length}
use Rattle.event_bytes.specs.declared.event.Event.{Event}
use Rattle.desktop_definitions.specs.Desktop.{Desktop}
use Rattle.store_slots.specs.declared.former.Former.{Former}
use Rattle.store_slots.specs.declared.live.LiveDesktop.{LiveDesktop}
use Rattle.store_slots.specs.Live.{IsNamed, seen_live}
use Rattle.store_slots.specs.Load.{IsReadUpTo}
use Rattle.sector_disk.specs.Trail.{Content, Trail, now}
use Rattle.store_layout.specs.declared.head.Head.{Head}
use Rattle.store_layout.specs.declared.layout.TheConstants.{JOURNAL_EVENTS, LAYOUT, SLOTS}
use Rattle.store_layout.specs.Layout.{is_open, slot_gate, gate, head, IsGoodHead}
use Rattle.store_layout.specs.Meaning.{IsJournal, HasImage, Standing, Stands, and_all, desktop_of}
use Rattle.store_layout.specs.Kept.{IsSettled}

-- Beside this slot the other one is open, and it alone would show this.
pub record StandsBeside (c : Content) (slot : ℕ) (t : Standing) : Type 0 where
  pub two : slot + t.slot ≡ 1
  pub live : is_open (c (slot_gate t.slot)) ≡ true
  pub good : IsGoodHead (head c t.slot)
  pub version : (head c t.slot).version ≡ t.version
  pub epoch : (head c t.slot).epoch ≡ t.epoch
  pub past : (head c t.slot).past ≡ t.past
  pub image : HasImage c t.slot t.start
  pub journal : IsJournal c t.slot 0 t.events

-- Nothing is pending, the disk shows the first standing by this slot, and the other slot the second.
pub record StandsOver (size : ℕ) (disk : Trail) (slot : ℕ) (s t : Standing) : Type 0 where
  pub settled : IsSettled size disk s
  pub slot_is : s.slot ≡ slot
  pub beside : StandsBeside (now disk).reads slot t

-- the content shows the one or the other
abbrev pub StandsOneOf : ℕ → Standing → Standing → Content → Type 0
StandsOneOf size s t c = Stands size c t ⊎ Stands size c s

-- ---- what came before the slot in use

-- The other slot shows this, under the epoch before and in the same version, and its desktop is the one that the slot in
-- use starts from.
pub record CameBefore (c : Content) (s t : Standing) : Type 0 where
  pub beside : StandsBeside c s.slot t
  pub epoch : t.epoch + 1 ≡ s.epoch
  pub version : t.version ≡ s.version
  pub goes_on : s.start ≡ desktop_of t

-- Of what the content shows this is the rest, where these events are taken back: the last of the journal in use; or all of
-- it, and of the journal before it the last ones, one at least.
pub data IsRest (c : Content) (events : List Event) (s rest : Standing) : Type 0 where
  within : s ≡ and_all rest events → IsRest c events s rest
  across : (t : Standing) (event : Event) (more : List Event) → CameBefore c s t
      → t ≡ and_all rest (event ∷ more)
      → events ≡ event ∷ more ++ s.events → IsRest c events s rest

-- From the slot in use, this one, to the rest, in the slot `to` with k events: the gates that are closed.
abbrev pub InUndo : ℕ → ℕ → ℕ → ℕ → Type 0
InUndo slot to k n = (n ≡ gate to k) ⊎ ((slot + to ≡ 1) × (n ≡ slot_gate slot))

-- Nothing is pending, and the disk shows this by this slot. Where these events are taken back, one at least, the rest is
-- this, by k events of the slot `to`.
pub record GoesBackTo (size : ℕ) (disk : Trail) (slot to k : ℕ) (s rest : Standing)
    (events : List Event) : Type 0 where
  pub settled : IsSettled size disk s
  pub slot_is : s.slot ≡ slot
  pub some : 0 < length events
  pub is_rest : IsRest (now disk).reads events s rest
  pub to_is : rest.slot ≡ to
  pub long : length rest.events ≡ k

-- ---- what was read

-- The journal of a slot has these events, so many.
pub record HasEvents (c : Content) (slot count : ℕ) (events : List Event) : Type 0 where
  pub journal : IsJournal c slot 0 events
  pub long : length events ≡ count

-- From the slot of this content this desktop was read, by its first events, at most so many, and their number.
pub record IsLoadedUpTo (c : Content) (slot version most count : ℕ) (c' : Content)
    (live : LiveDesktop) : Type 0 where
  pub start : Desktop
  pub image : HasImage c slot start
  pub read : IsReadUpTo c slot version most count start (seen_live c' live)
  pub few : count ≤ most
  pub named : IsNamed c' slot live

-- Under this head and with so many events the slot beside this one came before it: this slot is of this epoch, and starts
-- from the desktop to which the other one leads, both in the newest version.
pub record HasFormer (c : Content) (slot number : ℕ) (h : Head) (count : ℕ) : Type 0 where
  pub former : Standing
  pub beside : StandsBeside c slot former
  pub epoch : former.epoch + 1 ≡ number
  pub version_is : former.version ≡ LAYOUT
  pub newest : (head c slot).version ≡ LAYOUT
  pub head_is : head c (1 - slot) ≡ h
  pub long : length former.events ≡ count
  pub starts : HasImage c slot (desktop_of former)

-- This slot is open, under a good head.
pub record IsOpenSlot (c : Content) (slot : ℕ) : Type 0 where
  pub live : is_open (c (slot_gate slot)) ≡ true
  pub good : IsGoodHead (head c slot)

-- Before this slot of this epoch, which is open, no events came by the slot beside it.
abbrev pub NoFormer : Content → ℕ → ℕ → Type 0
NoFormer c slot number = IsOpenSlot c slot → (h : Head) (count : ℕ) → 0 < count
    → HasFormer c slot number h count → ⊥

-- No events came before what the content shows by another slot: by none in the newest version.
abbrev pub NothingBefore : Content → Standing → Type 0
NothingBefore c s = (t : Standing) → CameBefore c s t → t.version ≡ LAYOUT → t.events ≡ []

-- What was read shows the rest of what the content shows, without these events, by a slot of this epoch and so many events.
-- The head of that slot names what it has in the area.
pub record IsEarlier (c : Content) (slot number count : ℕ) (s : Standing) (live : LiveDesktop)
    (events : List Event)
    : Type 0 where
  pub rest : Standing
  pub is_rest : IsRest c events s rest
  pub slot_is : rest.slot ≡ slot
  pub version_is : rest.version ≡ s.version
  pub epoch_is : rest.epoch ≡ number
  pub long : length rest.events ≡ count
  pub shown : seen_live c live ≡ desktop_of rest
  pub named : IsNamed c slot live

-- What came before a slot has more than k events.
pub record HasMoreThan (former : Former) (k : ℕ) : Type 0 where
  pub good : IsGoodHead former.head
  pub some : k < former.events
  pub few : former.events ≤ JOURNAL_EVENTS

-- How many events were taken back of a slot of this epoch with `end` events, where `count` were asked for: these, or fewer,
-- where none is left there. Where the journal in use has as many, that slot stays in use.
pub record IsCountedBack (slot number end count slot' number' left back : ℕ) : Type 0 where
  pub few : back ≤ count
  pub as_many : left ≡ 0 ⊎ back ≡ count
  pub own : count ≤ end → (slot' ≡ slot) × (number' ≡ number) × (left + back ≡ end)
  pub other : end < count → (slot' ≡ slot) × (number' ≡ number) × (left ≡ 0) × (back ≡ end)
      ⊎ (slot' + slot ≡ 1) × (number' + 1 ≡ number) × (end < back)
  pub short : 0 < back → left < JOURNAL_EVENTS
  pub two : slot' < SLOTS

-- These events lead to what the content shows: those of its journal, where none came before; or, where the slot beside it
-- came before, those of both journals.
pub data IsHistory (c : Content) (s : Standing) (events : List Event) : Type 0 where
  alone : NothingBefore c s → events ≡ s.events → IsHistory c s events
  behind : (t : Standing) → CameBefore c s t → events ≡ t.events ++ s.events → IsHistory c s events
