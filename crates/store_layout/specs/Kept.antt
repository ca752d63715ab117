-- What a disk that nothing is pending on stands for, and which sectors each call writes.
use Rattle.std.specs.Prelude.{◌≡◌, ◌⊎◌, ◌<◌, ◌≤◌, ◌+◌, ◌-◌, ◌*◌, ℕ, List, length, take}
use Rattle.std.specs.Prelude.{Bool, true, false}
use Rattle.sector_disk.specs.Trail.{Content, Trail, now}
use Rattle.event_bytes.specs.declared.event.Event.{Event}
use Rattle.event_bytes.specs.Spelling.{BeginsWithEvent}
use Rattle.desktop_definitions.specs.Desktop.{Desktop}
use Rattle.sector_disk.specs.declared.disk.TheConstants.{SECTOR_BYTES}
use Rattle.store_layout.specs.declared.head.Head.{Head}
use Rattle.store_layout.specs.declared.head.PastEnd.{PastEnd}
use Rattle.store_layout.specs.declared.layout.TheConstants.{JOURNAL_EVENTS, AREA_SECTORS, IMAGE_SECTORS}
use Rattle.store_layout.specs.Layout.{is_open, slot_gate, slot_head, gate, body, image_at, area_at, head}
use Rattle.store_layout.specs.Layout.{IsGoodHead}
use Rattle.store_layout.specs.Meaning.{Standing, Stands, desktop_of, HasImage, area_bytes, full_sectors}

-- nothing is pending on the disk, and what it reads shows this
pub record IsSettled (size : ℕ) (disk : Trail) (s : Standing) : Type 0 where
  pub quiet : (n : ℕ) → (now disk).pending n ≡ false
  pub stands : Stands size (now disk).reads s

-- the disk is settled and shows the desktop, by this slot, version and epoch and so many events
pub record ShowsSettled (size : ℕ) (disk : Trail) (live version number count : ℕ)
    (desktop : Desktop) : Type 0 where
  pub standing : Standing
  pub settled : IsSettled size disk standing
  pub slot : standing.slot ≡ live
  pub version_is : standing.version ≡ version
  pub epoch : standing.epoch ≡ number
  pub events : length standing.events ≡ count
  pub is : desktop_of standing ≡ desktop

-- ---- the characters in an area

-- the first n sectors of an area hold the first of these characters
abbrev pub HasFront : Content → ℕ → ℕ → List ℕ → Type 0
HasFront c area n characters = area_bytes c area n ≡ take (SECTOR_BYTES * n) characters

-- the head of the slot in use names so many sectors of this area, and they are the front of these characters
pub record IsFront (c : Content) (live area saved : ℕ) (characters : List ℕ) : Type 0 where
  pub area_is : (head c live).area ≡ area
  pub named : full_sectors (head c live).written ≡ saved
  pub same : HasFront c area saved characters

-- The area that a checkpoint writes: that in which the characters stand, behind them, or the other one, whole, where
-- all characters were exchanged since the slot in use was written.
abbrev pub chosen_area : Bool → ℕ → ℕ
chosen_area false area = area
chosen_area true area = 1 - area

-- from this sector of an area on the head names nothing
abbrev pub SparesArea : Head → ℕ → ℕ → Type 0
SparesArea h area from = h.area ≡ area → full_sectors h.written ≤ from

-- ---- an event into the journal

-- where event k goes: its body, and the gate behind it, if there is one
abbrev pub NextRecord : ℕ → ℕ → ℕ → Type 0
NextRecord slot k n = (n ≡ body slot k) ⊎ ((n ≡ gate slot (k + 1)) × (k + 1 < JOURNAL_EVENTS))

-- event k stands behind its closed gate, and a closed gate behind it
pub record IsStaged (size : ℕ) (disk : Trail) (s : Standing) (event : Event) (k : ℕ) : Type 0 where
  pub settled : IsSettled size disk s
  pub begins : BeginsWithEvent ((now disk).reads (body s.slot k)) event
  pub closed : k + 1 < JOURNAL_EVENTS → is_open ((now disk).reads (gate s.slot (k + 1))) ≡ false

-- ---- a checkpoint into the other slot

-- its gate, where it is open
abbrev pub OpenGate : Content → ℕ → ℕ → Type 0
OpenGate c slot n = (n ≡ slot_gate slot) × (is_open (c (slot_gate slot)) ≡ true)

-- what is written behind its closed gate: its head, the first gate of its journal, its image
abbrev pub InSlot : ℕ → ℕ → Type 0
InSlot slot n = (n ≡ slot_head slot)
    ⊎ ((n ≡ gate slot 0) ⊎ ((image_at slot ≤ n) × (n < image_at slot + IMAGE_SECTORS)))

-- the sectors of an area from this one on
abbrev pub InArea : ℕ → ℕ → ℕ → Type 0
InArea area from n = (area_at area from ≤ n) × (n < area_at area AREA_SECTORS)

abbrev pub InCheckpoint : ℕ → ℕ → ℕ → ℕ → Type 0
InCheckpoint slot area from n = InSlot slot n ⊎ InArea area from n

-- a slot of this version and epoch, whose head tells of this past, has this desktop and an empty journal
pub record IsNewSlot (c : Content) (slot version number : ℕ) (past : PastEnd) (desktop : Desktop)
    : Type 0 where
  pub good : IsGoodHead (head c slot)
  pub version_is : (head c slot).version ≡ version
  pub epoch : (head c slot).epoch ≡ number
  pub past_is : (head c slot).past ≡ past
  pub image : HasImage c slot desktop
  pub journal : is_open (c (gate slot 0)) ≡ false
