-- What the content of a disk means: the desktop of its live slot's image, after the events of that slot's journal.
use Rattle.std.specs.Prelude.{◌≡◌, ◌⊎◌, ◌<◌, ◌≤◌, ◌+◌, ◌-◌, ◌*◌, ◌/◌, ◌%◌, ℕ, true, false}
use Rattle.std.specs.Prelude.{List, [], ◌∷◌, ◌++◌, length, take, drop}
use Rattle.sector_disk.specs.Trail.{Content}
use Rattle.sector_disk.specs.Stored.{stored}
use Rattle.event_bytes.specs.declared.event.Event.{Event}
use Rattle.event_bytes.specs.Spelling.{BeginsWithEvent}
use Rattle.desktop_definitions.specs.Desktop.{Desktop, KeptDesktop}
use Rattle.desktop_definitions.specs.Seen.{seen}
use Rattle.desktop_definitions.specs.Step.{steps_in}
use Rattle.sector_disk.specs.declared.disk.TheConstants.{SECTOR_BYTES}
use Rattle.image_format.specs.Image.{Spells}
use Rattle.store_layout.specs.declared.head.Head.{Head}
use Rattle.store_layout.specs.declared.head.PastEnd.{PastEnd}
use Rattle.store_layout.specs.declared.layout.TheConstants.{JOURNAL_EVENTS, LABEL, SLOTS, STORE_SECTORS}
use Rattle.store_layout.specs.Layout.{is_label, is_open, slot_gate, gate, body, image_at, area_start, head}
use Rattle.store_layout.specs.Layout.{IsGoodHead}

-- ---- the journal of a slot

-- From gate k on the journal of a slot has these events: each in a body under an open gate, and behind the last of them
-- a closed gate, unless it is under gate 255.
abbrev pub IsJournal : Content → ℕ → ℕ → List Event → Type 0
IsJournal c slot k [] = k < JOURNAL_EVENTS → is_open (c (gate slot k)) ≡ false
IsJournal c slot k (event ∷ events) = (k < JOURNAL_EVENTS) × (is_open (c (gate slot k)) ≡ true)
    × BeginsWithEvent (c (body slot k)) event × IsJournal c slot (k + 1) events

-- ---- the image of a slot

-- how many characters fill whole sectors of an area, in sectors; and how many are left over
abbrev pub full_sectors : ℕ → ℕ
full_sectors written = written / SECTOR_BYTES

abbrev pub left_over : ℕ → ℕ
left_over written = written % SECTOR_BYTES

-- the bytes of a slot's image: the characters that are left over, and then the image of the desktop
abbrev pub slot_image_bytes : Content → ℕ → List ℕ
slot_image_bytes c slot = stored c (image_at slot) (head c slot).extent

-- the characters in the first n sectors of an area
abbrev pub area_bytes : Content → ℕ → ℕ → List ℕ
area_bytes c area n = stored c (area_start area) (SECTOR_BYTES * n)

-- A head, the bytes of an image and the characters of its area make a desktop: that of the image, in the version of the
-- head, as it is seen among the characters of the area and those at the front of the image.
pub record MakesDesktop (h : Head) (image area : List ℕ) (start : Desktop) : Type 0 where
  pub kept : KeptDesktop
  pub tail : left_over h.written ≤ length image
  pub spells : Spells h.version h.written (drop (left_over h.written) image) kept
  pub is : seen (area ++ take (left_over h.written) image) kept ≡ start

-- a slot starts from this desktop
abbrev pub HasImage : Content → ℕ → Desktop → Type 0
HasImage c slot start = MakesDesktop (head c slot) (slot_image_bytes c slot)
    (area_bytes c (head c slot).area (full_sectors (head c slot).written)) start

-- ---- which slot is in use

-- of two slots that are open, the other one's head is good, and its epoch is less; where they are equal slot 0 is in
-- use
abbrev pub IsOlder : Content → ℕ → ℕ → Type 0
IsOlder c epoch idle = IsGoodHead (head c idle) × ((head c idle).epoch < epoch + idle)

-- ---- the whole

-- What a content shows: the live slot, its version and epoch, what its head tells of the past, the desktop that it starts
-- from, and the events since. They are stepped by the version of the slot in whose journal they stand.
pub record Standing : Type 0 where
  pub slot : ℕ
  pub version : ℕ
  pub epoch : ℕ
  pub past : PastEnd
  pub start : Desktop
  pub events : List Event

abbrev pub desktop_of : Standing → Desktop
desktop_of s = steps_in s.version s.start s.events

-- A disk of this size with this content shows that.
pub record Stands (size : ℕ) (c : Content) (s : Standing) : Type 0 where
  pub large : STORE_SECTORS ≤ size
  pub label : is_label (c LABEL) ≡ true
  pub two : s.slot < SLOTS
  pub live : is_open (c (slot_gate s.slot)) ≡ true
  pub good : IsGoodHead (head c s.slot)
  pub version : (head c s.slot).version ≡ s.version
  pub epoch : (head c s.slot).epoch ≡ s.epoch
  pub past : (head c s.slot).past ≡ s.past
  pub other : (idle : ℕ) → s.slot + idle ≡ 1 → is_open (c (slot_gate idle)) ≡ true
      → IsOlder c s.epoch idle
  pub image : HasImage c s.slot s.start
  pub journal : IsJournal c s.slot 0 s.events

-- the content means the desktop
abbrev pub Means : ℕ → Desktop → Content → Type 0
Means size desktop c = (s : Standing) × Stands size c s × (desktop_of s ≡ desktop)

-- it means one of two desktops
abbrev pub MeansEither : ℕ → Desktop → Desktop → Content → Type 0
MeansEither size before after c = Means size before c ⊎ Means size after c

-- it means the desktop, by a slot of this version and epoch and a journal of so many events
pub record Shows (size version number count : ℕ) (desktop : Desktop) (c : Content) : Type 0 where
  pub standing : Standing
  pub stands : Stands size c standing
  pub version_is : standing.version ≡ version
  pub epoch : standing.epoch ≡ number
  pub events : length standing.events ≡ count
  pub is : desktop_of standing ≡ desktop

-- one event more
abbrev pub and_then : Standing → Event → Standing
and_then s event = record {
  slot = s.slot;
  version = s.version;
  epoch = s.epoch;
  past = s.past;
  start = s.start;
  events = s.events ++ event ∷ [];
}

-- its first k events alone
abbrev pub cut_to : ℕ → Standing → Standing
cut_to k s = record {
  slot = s.slot;
  version = s.version;
  epoch = s.epoch;
  past = s.past;
  start = s.start;
  events = take k s.events;
}

-- more events behind those of a standing
abbrev pub and_all : Standing → List Event → Standing
and_all s events = record {
  slot = s.slot;
  version = s.version;
  epoch = s.epoch;
  past = s.past;
  start = s.start;
  events = s.events ++ events;
}

-- the content shows the standing, or the same with its first k events alone
abbrev pub StandsEither : ℕ → ℕ → Standing → Content → Type 0
StandsEither size k s c = Stands size c (cut_to k s) ⊎ Stands size c s
