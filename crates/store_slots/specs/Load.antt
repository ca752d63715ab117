-- What opening a store has found and read: the slot in use, what it starts from, and how far its journal goes.
use Rattle.std.specs.Prelude.{◌≡◌, ◌<◌, ◌≤◌, ◌++◌, ℕ, List, length, take, drop}
use Rattle.std.specs.Prelude.{nat_lt, if◌then◌else◌, Option, Some, None, true, false}
use Rattle.sector_disk.specs.declared.disk.Disk.{Ghosts}
use Rattle.sector_disk.specs.Trail.{Content}
use Rattle.event_bytes.specs.declared.event.Event.{Event}
use Rattle.event_bytes.specs.Spelling.{BeginsWithEvent}
use Rattle.desktop_definitions.specs.Desktop.{Desktop, KeptDesktop}
use Rattle.desktop_definitions.specs.Sound.{IsKeptWhole}
use Rattle.desktop_definitions.specs.Step.{steps_in}
use Rattle.image_format.specs.declared.fault.ImageFault.{ImageFault}
use Rattle.image_format.specs.declared.fault.ImageFault.TheVariants.{Damaged as BadImage, Fault as Failed}
use Rattle.image_format.specs.declared.fault.ImageFault.TheVariants.{NoMemory as Refused}
use Rattle.image_format.specs.Image.{Spells}
use Rattle.store_layout.specs.declared.head.Head.{Head}
use Rattle.store_layout.specs.declared.layout.TheConstants.{JOURNAL_EVENTS, LABEL, SLOTS, STORE_SECTORS}
use Rattle.store_layout.specs.Layout.{is_label, is_open, gate, body, image_at, head, IsGoodHead}
use Rattle.store_slots.specs.Live.{HasTrueCache, IsLive, IsNamed, seen_live}
use Rattle.store_slots.specs.declared.live.LiveDesktop.{LiveDesktop}
use Rattle.store_slots.specs.declared.loaded.Loaded.{Loaded}
use Rattle.store_slots.specs.declared.error.Error.{Error}
use Rattle.store_slots.specs.declared.error.Error.TheVariants.{NoMemory, Fault, Damaged}
use Rattle.store_layout.specs.Meaning.{IsJournal, Standing, Stands, desktop_of, cut_to, left_over}
use Rattle.store_layout.specs.Finding.{AreHeadsGood}
use Rattle.store_layout.specs.Footprint.{IsLedTo, IsInUse}

-- it is a good head, of this version
pub record IsHeadOf (number : ℕ) (h : Head) : Type 0 where
  pub good : IsGoodHead h
  pub version : number ≡ h.version

-- the first k events of a journal stand under open gates, and by this version they lead from the one desktop to the
-- other
pub record IsJournalReadTo (c : Content) (slot version k : ℕ) (from to : Desktop) : Type 0 where
  pub events : List Event
  pub count : length events ≡ k
  pub led : IsLedTo c slot k
  pub each : (j : ℕ) → j < k → (event : Event) × BeginsWithEvent (c (body slot j)) event
  pub goes_on : (rest : List Event) → IsJournal c slot k rest → IsJournal c slot 0 (events ++ rest)
  pub is : to ≡ steps_in version from events

-- so many of the first events have been read, and there are no more of them, or it was to be no more
pub record IsReadUpTo (c : Content) (slot version most count : ℕ) (from to : Desktop) : Type 0 where
  pub read : IsJournalReadTo c slot version count from to
  pub ended : count < most → is_open (c (gate slot count)) ≡ false

-- the whole journal has been read: it has so many events, and by this version they lead from the one desktop to the
-- other
pub record IsReadWhole (c : Content) (slot version count : ℕ) (from to : Desktop) : Type 0 where
  pub events : List Event
  pub long : length events ≡ count
  pub journal : IsJournal c slot 0 events
  pub is : to ≡ steps_in version from events

-- The start of a slot was read from the bytes of its image: the characters at their front stand at the front of a sector,
-- and the rest of the bytes spells the desktop in that version.
pub record IsStart (honest : Type 0) (bytes : List ℕ) (version written : ℕ) (tail : List ℕ)
    (d : KeptDesktop)
    : Type 0 where
  pub front : honest → take (left_over written) tail ≡ take (left_over written) bytes
  pub enough : honest → left_over written ≤ length bytes
  pub spelled : honest → Spells version written (drop (left_over written) bytes) d
  -- whatever was read
  pub whole : IsKeptWhole d
  pub count : d.written ≡ written

-- behind the characters at the front of these bytes no desktop is spelled
abbrev pub HasNoStart : List ℕ → ℕ → ℕ → Type 0
HasNoStart bytes version written = left_over written ≤ length bytes → (d : KeptDesktop)
    → Spells version written (drop (left_over written) bytes) d → ⊥

-- why a store isn't opened, where the image of a slot isn't read
abbrev pub image_error : ℕ → ImageFault → Error
image_error slot BadImage = Damaged (image_at slot)
image_error slot Failed = Fault
image_error slot Refused = NoMemory

-- What was loaded of a disk is within a store's limits, and its desktop is live on the disk.
pub record IsLoaded {D : Type 0} (d : Ghosts D) (disk : D) (x : Loaded) : Type 0 where
  pub large : STORE_SECTORS ≤ d.size disk
  pub two : x.slot < SLOTS
  pub few : x.events ≤ JOURNAL_EVENTS
  pub live : IsLive x.desktop
  pub told : HasTrueCache d disk x.desktop

-- a store of this size has this slot in use, under this head
pub record IsLocated (size : ℕ) (c : Content) (slot : ℕ) (h : Head) : Type 0 where
  pub large : STORE_SECTORS ≤ size
  pub label : is_label (c LABEL) ≡ true
  pub heads : AreHeadsGood c
  pub used : IsInUse c slot
  pub is : head c slot ≡ h

-- a store of this size has a slot in use: its label is right, and each head under an open gate is good
abbrev pub HasSlotInUse : ℕ → Content → Type 0
HasSlotInUse size c = (slot : ℕ) × (h : Head) × IsLocated size c slot h

-- of two slots, each with its head where it is open, the one in use
abbrev pub IsChosen : Option Head → Option Head → Option (ℕ × Head) → Type 0
IsChosen None None chosen = chosen ≡ None
IsChosen (Some first) None chosen = chosen ≡ Some (0, first)
IsChosen None (Some second) chosen = chosen ≡ Some (1, second)
IsChosen (Some first) (Some second) chosen =
    chosen ≡ (if nat_lt first.epoch second.epoch then Some (1, second) else Some (0, first))

-- What was loaded shows over the second content what the first one shows by its first events, so many. The head of the
-- slot in use names what it has in the area.
abbrev pub IsCutTo : ℕ → Content → ℕ → Content → LiveDesktop → Type 0
IsCutTo size c most c' live = (s : Standing) → Stands size c s → most ≤ length s.events
    → (seen_live c' live ≡ desktop_of (cut_to most s)) × IsNamed c' s.slot live
