-- A past that goes on where a sitting begins, or begins there. `d` is what is known of a disk.
use Rattle.std.specs.Prelude.{◌≡◌, ◌⊎◌, ◌+◌, ◌<◌, ◌≤◌, ℕ, [], List, Bool, true, max, if◌then◌else◌}
use Rattle.sector_disk.specs.declared.disk.Disk.{Ghosts}
use Rattle.sector_disk.specs.Trail.{Content, LeavesOnly, now}
use Rattle.desktop_definitions.specs.Desktop.{Desktop}
use Rattle.store_layout.specs.declared.layout.TheConstants.{LABEL, STORE_SECTORS}
use Rattle.store_layout.specs.Layout.{head_of, is_label, is_open, slot_gate, slot_head}
use Rattle.store_layout.specs.Meaning.{Standing}
use Rattle.desk_journal.specs.Undoing.{ShowsStanding}
use Rattle.desk_journal.specs.View.{StoreView}
use Rattle.past_pages.specs.Parts.{GoesOnIn, HasParts, IsPartBeside, IsPastPart, part_base}
use Rattle.past_pages.specs.Reading.{IsOnlyReadFrom}
use Rattle.past_pages.specs.declared.parts.TheConstants.{LEAST_ROOM, PART_SECTORS}
use Rattle.desk_past.specs.Beginning.{AreUncounted, GoesOnFrom, begun_at}
use Rattle.desk_past.specs.Deeds.{PastDeed}
use Rattle.desk_past.specs.Past.{KeepsAll, Remembers, Start}
use Rattle.desk_past.specs.declared.going_on.Outset.{Outset}
use Rattle.desk_past.specs.declared.going_on.Outset.TheVariants.{Absent, GoesOn, Begins}

-- ---- what stands behind a store

-- the epoch of a slot of the start from this sector on, or 0 where its gate is closed
abbrev pub slot_epoch : Content → ℕ → ℕ → ℕ
slot_epoch c base slot = if is_open (c (base + slot_gate slot))
    then (head_of (c (base + slot_head slot))).epoch else 0

-- the epoch of that start, or 0 where none stands there
abbrev pub start_epoch : Content → ℕ → ℕ
start_epoch c base = if is_label (c (base + LABEL))
    then max (slot_epoch c base 0) (slot_epoch c base 1) else 0

-- in some part a start stands
pub record IsStartedSomewhere (size : ℕ) (c : Content) : Type 0 where
  pub base : ℕ
  pub end : ℕ
  pub part : IsPastPart size base end
  pub start : 0 < start_epoch c base

-- Of the parts beside the one in which pages go on in this sector it is the one whose start is the oldest, or which has
-- none.
pub record IsOldest (size next base : ℕ) (c : Content) : Type 0 where
  pub there : IsPartBeside size next base
  pub oldest : (other : ℕ) → IsPartBeside size next other → start_epoch c base ≤ start_epoch c other

-- Of a part, whose start has this epoch, and of the one at a place, if that is beside, this is the older one.
pub record IsOlderOf (base epoch place next : ℕ) (c : Content) (least lowest : ℕ) : Type 0 where
  pub first : lowest ≤ epoch
  pub second : ¬ GoesOnIn (part_base place) (part_base place + PART_SECTORS) next
      → lowest ≤ start_epoch c (part_base place)
  pub one : (least ≡ base) × (lowest ≡ epoch)
      ⊎ (least ≡ part_base place) × (lowest ≡ start_epoch c (part_base place))

-- the sector lies in a part in which pages can go on there
pub record IsInPart (size next : ℕ) : Type 0 where
  pub base : ℕ
  pub end : ℕ
  pub part : IsPastPart size base end
  pub low : base + STORE_SECTORS ≤ next
  pub high : next ≤ end

-- A past is to go on or to begin: one is asked for, or was kept, since there is a start, or pages go on in this sector
-- of a part.
abbrev pub IsWanted : Bool → ℕ → ℕ → Content → Type 0
IsWanted asked size next c = (asked ≡ true) ⊎ IsStartedSomewhere size c ⊎ IsInPart size next

-- The part in which pages go on in this sector has its start, and isn't full.
pub record CanGoOn (size next : ℕ) (c : Content) : Type 0 where
  pub at : IsInPart size next
  pub start : 0 < start_epoch c at.base
  pub room : next + LEAST_ROOM ≤ at.end

-- ---- a past that goes on there

module _ {D : Type 0} (d : Ghosts D) where
  -- the past lies in a part, up to the sector that the head names
  pub record LiesInPart {start : Start} {deeds : List PastDeed} {desktop : Desktop}
      {store : StoreView D} (keeps : KeepsAll d start deeds desktop store)
      : Type 0 where
    pub end : ℕ
    pub part : IsPastPart (d.size store.disk) start.base end
    pub within : keeps.remembers.standing.past.next ≤ end

  -- Nothing is forgotten of a past in a part: at every moment of the call a crash leaves it, or it and one that begins
  -- behind it.
  abbrev pub ForgetsNone : StoreView D → StoreView D → Type 0
  ForgetsNone old new = d.honest old.disk → (start : Start) (deeds : List PastDeed)
      (desktop : Desktop) → (keeps : KeepsAll d start deeds desktop old) → LiesInPart keeps
      → LeavesOnly (d.trail old.disk) (d.trail new.disk)
      (λ c. Remembers (d.size old.disk) start deeds desktop c
      ⊎ ((base : ℕ) × GoesOnFrom (d.size old.disk) base start deeds desktop c))

  -- a past begins with what the store shows, in this sector
  abbrev pub BeginsIn : ℕ → StoreView D → StoreView D → Type 0
  BeginsIn base old new = d.honest old.disk → (before : ℕ)
      × KeepsAll d (begun_at old.desktop before base) [] old.desktop new

  -- in the oldest part
  abbrev pub BeginsNow : StoreView D → StoreView D → Type 0
  BeginsNow old new = d.honest old.disk → (s : Standing) → ShowsStanding d old s → (base : ℕ)
      × BeginsIn base old new
      × IsOldest (d.size old.disk) s.past.next base (now (d.trail old.disk)).reads

  -- what has become of a past that was to begin in this sector
  abbrev pub IsOutsetIn : ℕ → StoreView D → StoreView D → Outset → Type 0
  IsOutsetIn base old new Absent = d.honest old.disk → AreUncounted d old
  IsOutsetIn base old new GoesOn = ⊥
  IsOutsetIn base old new Begins = BeginsIn base old new

  -- What was done where that has become of a past: nothing is written where it goes on.
  abbrev pub IsOutsetOf : StoreView D → StoreView D → Outset → Type 0
  IsOutsetOf old new Absent = Unit {0}
  IsOutsetOf old new GoesOn = IsOnlyReadFrom d old new
  IsOutsetOf old new Begins = BeginsNow old new

  -- what becomes of a past, where the store shows this
  abbrev pub IsDueOutset : Bool → StoreView D → Standing → Outset → Type 0
  IsDueOutset asked old s Absent = HasParts (d.size old.disk)
      → IsWanted asked (d.size old.disk) s.past.next (now (d.trail old.disk)).reads
      → AreUncounted d old
  IsDueOutset asked old s GoesOn = CanGoOn (d.size old.disk) s.past.next
      (now (d.trail old.disk)).reads
  IsDueOutset asked old s Begins = HasParts (d.size old.disk)
      × IsWanted asked (d.size old.disk) s.past.next (now (d.trail old.disk)).reads
      × ¬ CanGoOn (d.size old.disk) s.past.next (now (d.trail old.disk)).reads
