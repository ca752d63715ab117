-- Where a call on a store with a past writes: behind the pages that count, in their part. `d` is what is known of a
-- disk.
use Rattle.std.specs.Prelude.{◌≡◌, ◌⊎◌, ◌+◌, ◌<◌, ◌≤◌, ℕ, List, Result}
use Rattle.sector_disk.specs.declared.disk.Disk.{Ghosts}
use Rattle.sector_disk.specs.Faults.{FailsAs}
use Rattle.sector_disk.specs.Trail.{Content, LeavesOnly, now}
use Rattle.desktop_definitions.specs.Desktop.{Desktop}
use Rattle.store_layout.specs.declared.layout.TheConstants.{STORE_SECTORS}
use Rattle.store_layout.specs.Filling.{InRange}
use Rattle.store_layout.specs.Meaning.{Standing}
use Rattle.store_slots.specs.declared.error.Error.{Error}
use Rattle.store_slots.specs.declared.error.Error.TheVariants.{Fault}
use Rattle.desk_journal.specs.Device.{IsSameDevice}
use Rattle.desk_journal.specs.Undoing.{ShowsStanding}
use Rattle.desk_journal.specs.View.{StoreView}
use Rattle.past_pages.specs.Parts.{IsPastPart}
use Rattle.desk_past.specs.Beginning.{RemembersFormer, SparesBut}
use Rattle.desk_past.specs.Deeds.{PastDeed}
use Rattle.desk_past.specs.Going.{IsInPart, IsOldest, LiesInPart}
use Rattle.desk_past.specs.Past.{KeepsAll, Start}

-- a sector before this end, and from the one on in which pages go on
abbrev pub LiesUpTo : ℕ → ℕ → ℕ → Type 0
LiesUpTo end next n = (next ≤ n) × (n < end)

-- and before the end of the part in which they do
pub record LiesAhead (size next n : ℕ) : Type 0 where
  pub at : IsInPart size next
  pub ahead : LiesUpTo at.end next n

-- a sector of the start that begins in the oldest part, which this content tells
pub record LiesInOldest (size : ℕ) (c : Content) (next n : ℕ) : Type 0 where
  pub base : ℕ
  pub oldest : IsOldest size next base c
  pub within : InRange base STORE_SECTORS n

-- The content has the former past, in another part than the one that begins in this sector.
pub record HasFormerPast (size base : ℕ) (start : Start) (deeds : List PastDeed) (desktop : Desktop)
    (c : Content)
    : Type 0 where
  pub remembers : RemembersFormer size base start deeds desktop c
  pub end : ℕ
  pub part : IsPastPart size start.base end
  pub within : remembers.standing.past.next ≤ end
  pub other : ¬ (start.base ≡ base)
  pub room : base + STORE_SECTORS ≤ size

module _ {D : Type 0} (d : Ghosts D) where
  -- No sector behind the store is written but these, which go by the one that the head tells of.
  pub record WritesOnly (ahead : ℕ → ℕ → Type 0) (old new : StoreView D) : Type 0 where
    pub spared : (s : Standing) → ShowsStanding d old s
        → SparesBut d (λ n. (n < STORE_SECTORS) ⊎ ahead s.past.next n) old new

  -- A call on a store with a past, whatever it returns: the device is the same one, Fault comes exactly where a failure
  -- of it was counted, each error is one of the call's, and behind the store no sector is written but these.
  pub record UsesOnly {T : Type 0} (ahead : ℕ → ℕ → Type 0) (OfCall : Error → Type 0)
      (answer : Result T Error) (old new : StoreView D)
      : Type 0 where
    pub same : IsSameDevice d old.disk new.disk
    pub faults : FailsAs Fault OfCall answer (d.failures old.disk) (d.failures new.disk)
    pub others : WritesOnly ahead old new

  -- but those ahead: the other part stays as it is, and so do all pages that count
  abbrev pub UsesAhead : {T : Type 0} → (Error → Type 0) → Result T Error → StoreView D
      → StoreView D → Type 0
  UsesAhead OfCall answer old new = UsesOnly (LiesAhead (d.size old.disk)) OfCall answer old new

  -- or those of a start in the oldest part: all other parts stay as they are
  abbrev pub UsesParts : {T : Type 0} → (Error → Type 0) → Result T Error → StoreView D
      → StoreView D → Type 0
  UsesParts OfCall answer old new = UsesOnly (λ next n. LiesAhead (d.size old.disk) next n
      ⊎ LiesInOldest (d.size old.disk) (now (d.trail old.disk)).reads next n) OfCall answer old new

  -- so many sectors from this one on lie ahead
  abbrev pub AreAhead : ℕ → ℕ → StoreView D → Type 0
  AreAhead from limit store = d.honest store.disk → (s : Standing) → ShowsStanding d store s
      → (n : ℕ) → InRange from limit n → LiesAhead (d.size store.disk) s.past.next n

  -- A call that writes ahead alone, on a store whose past lies in its part, leaves the former one at every moment.
  abbrev pub FormerStaysLaw : Type 0
  FormerStaysLaw = (start former : Start) (deeds were : List PastDeed) (desktop was : Desktop)
      (old new : StoreView D) → d.honest old.disk → (keeps : KeepsAll d start deeds desktop old)
      → LiesInPart d keeps → WritesOnly (LiesAhead (d.size old.disk)) old new
      → HasFormerPast (d.size old.disk) start.base former were was (now (d.trail old.disk)).reads
      → LeavesOnly (d.trail old.disk) (d.trail new.disk)
      (HasFormerPast (d.size old.disk) start.base former were was)
