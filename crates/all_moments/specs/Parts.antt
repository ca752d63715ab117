-- The moments of a past over all its parts that stand. `d` is what is known of a disk.
use Rattle.std.specs.Prelude.{◌≡◌, ◌≢◌, ◌⊎◌, ◌<◌, ◌≤◌, ◌∷◌, [], ℕ, zero, suc, List, Option, Some, None, codes, length}
use Rattle.sector_disk.specs.Memory.{Recorded}
use Rattle.sector_disk.specs.contracts.memory.MemoryDiskDisk.TheImpl.{ghosts as in_memory}
use Rattle.sector_disk.specs.Trail.{Content, now}
use Rattle.sector_disk.specs.declared.disk.Disk.{Ghosts}
use Rattle.desktop_definitions.specs.Desktop.{Desktop}
use Rattle.desk_journal.specs.View.{StoreView}
use Rattle.desk_past.specs.Deeds.{PastDeed}
use Rattle.desk_past.specs.Going.{LiesInPart}
use Rattle.desk_past.specs.Past.{Start}
use Rattle.desk_past.specs.Turning.{PastOf}
use Rattle.former_stores.specs.Former.{HasPartBefore, IsFormer, KeepsWhole}
use Rattle.past_moments.specs.Moments.{AreMomentsOf, IsDeedOf, IsDesktopAt, IsToldOf}
use Rattle.past_moments.specs.Seeking.{IsSoughtOf}
use Rattle.past_moments.specs.declared.seeking.Sought.{Sought}
use Rattle.all_moments.specs.declared.all.AllMoments.{AllMoments}
use Rattle.all_moments.specs.declared.part.Edge.{Edge}
use Rattle.all_moments.specs.declared.part.Edge.TheVariants.{Absent, Unknown, Unread}
use Rattle.all_moments.specs.declared.part.FormerPart.{FormerPart}
use Rattle.all_moments.specs.declared.part.Front.{Front}

-- ---- parts, by how many come behind them

-- The past of the part with so many parts behind it. Of the one in use no deeds are named: it is known.
abbrev pub IsPartBack : ℕ → Content → Start → ℕ → Start → List PastDeed → Desktop → Type 0
IsPartBack size c now_start zero start deeds desktop = start ≡ now_start
IsPartBack size c now_start (suc n) start deeds desktop = (mid : Start) × (done : List PastDeed)
    × (led : Desktop) × IsPartBack size c now_start n mid done led
    × IsFormer size mid.base start deeds desktop c

-- such is where the part in use begins, of each past that the store keeps in a part
abbrev pub BeginsWhere : {D : Type 0} → Ghosts D → StoreView D → (Start → Type 0) → Type 0
BeginsWhere d store Such = (past : PastOf d store) → LiesInPart d past.keeps → Such past.start

-- what is said of the oldest moment of a part, where that is known of the part before it
abbrev pub oldest_words : Edge → List ℕ
oldest_words Absent = codes "the oldest moment"
oldest_words edge = codes "the oldest moment that can be read"

module _ {D : Type 0} (d : Ghosts D) where
  -- such is the past of the part with so many behind it
  abbrev pub IsPartSuch : ℕ → StoreView D → (Start → List PastDeed → Desktop → Type 0) → Type 0
  IsPartSuch n store Such = (past : PastOf d store) → LiesInPart d past.keeps → (start : Start)
      → (deeds : List PastDeed) → (desktop : Desktop)
      → IsPartBack (d.size store.disk) (now (d.trail store.disk)).reads past.start n start deeds
      desktop → Such start deeds desktop

  -- another part stands before the one that begins there
  abbrev pub HasMore : StoreView D → Start → Type 0
  HasMore store start = HasPartBefore (d.size store.disk) start.base
      (now (d.trail store.disk)).reads

  -- Each part with fewer behind it begins at moment k or later, and another one stands before it.
  abbrev pub AreBehind : ℕ → ℕ → StoreView D → Type 0
  AreBehind n k store = (i : ℕ) → i < n → IsPartSuch i store (λ start deeds desktop.
      (k ≤ start.before) × HasMore store start)

  -- the store in memory keeps the past of the part with so many behind it
  abbrev pub KeepsPart : ℕ → StoreView Recorded → StoreView D → Type 0
  KeepsPart n part store = IsPartSuch n store (λ start deeds desktop.
      KeepsWhole in_memory start deeds desktop part)

  -- ---- what is said of a moment, in whichever part

  -- At moment k the desktop was this one: in the part in use; or in a former one, where each part behind that begins at
  -- moment k or later, and the one in use later.
  pub data IsDesktopThen (k : ℕ) (desktop : Desktop) (store : StoreView D) : Type 0 where
    in_use : IsDesktopAt d k desktop store → IsDesktopThen k desktop store
    former : (n : ℕ) (part : StoreView Recorded) → KeepsPart n part store → AreBehind n k store
        → BeginsWhere d store (λ start. k < start.before) → IsDesktopAt in_memory k desktop part
        → IsDesktopThen k desktop store

  -- where that is known of it, no part stands before the one with so many behind it
  abbrev pub IsEdge : Edge → ℕ → StoreView D → Type 0
  IsEdge edge n store = edge ≡ Absent → IsPartSuch n store (λ start deeds desktop.
      HasMore store start → ⊥)

  -- These words tell which deed led to moment k, in the part in use or in a former one; or that it is the present; or, at
  -- the oldest moment of a part, that it is the oldest one, where no part stands before.
  pub data IsToldThen (k : ℕ) (words : List ℕ) (store : StoreView D) : Type 0 where
    in_use : BeginsWhere d store (λ start. start.before < k) → IsToldOf d k words store
        → IsToldThen k words store
    former : (n : ℕ) (part : StoreView Recorded) → KeepsPart n part store → AreBehind n k store
        → BeginsWhere in_memory part (λ start. start.before < k) → IsDeedOf in_memory k words part
        → IsToldThen k words store
    oldest : (n : ℕ) (edge : Edge) → AreBehind n k store
        → IsPartSuch n store (λ start deeds desktop. k ≤ start.before) → IsEdge edge n store
        → words ≡ oldest_words edge → IsToldThen k words store

  -- that became of a word up to moment k, in the part in use or in a former one
  pub data IsSoughtThen (k : ℕ) (word : List ℕ) (sought : Sought) (store : StoreView D)
      : Type 0 where
    in_use : IsSoughtOf d k word sought store → IsSoughtThen k word sought store
    former : (n : ℕ) (part : StoreView Recorded) → KeepsPart n part store
        → IsSoughtOf in_memory k word sought part → IsSoughtThen k word sought store

  -- ---- what is known of them

  -- the part with so many behind it begins there
  pub record IsPartFront (n : ℕ) (front : Front) (store : StoreView D) : Type 0 where
    pub at : IsPartSuch n store (λ start deeds desktop.
        (front.base ≡ start.base) × (front.first ≡ start.before))
    pub behind : AreBehind n front.first store

  -- that part is this one, in memory
  pub record IsFormerPart (n : ℕ) (part : FormerPart) (store : StoreView D) : Type 0 where
    pub keeps : KeepsPart n part.store store
    pub moments : AreMomentsOf in_memory part.moments part.store
    pub front : IsPartFront n part.front store
    pub behind : AreBehind n part.last store

  -- there parts begin, the first of which has so many behind it
  abbrev pub AreFronts : ℕ → List Front → StoreView D → Type 0
  AreFronts n [] store = Unit {0}
  AreFronts n (front ∷ fronts) store = IsPartFront n front store × AreFronts (suc n) fronts store

  -- the part at hand has so many behind it: the one in use has none
  abbrev pub IsAtHand : ℕ → Option FormerPart → StoreView D → Type 0
  IsAtHand n None store = n ≡ 0
  IsAtHand n (Some part) store = (0 < n) × IsFormerPart n part store

  -- what is known of the part in use, and of where those behind the one at hand begin
  pub record AreBehindHand (all : AllMoments) (store : StoreView D) : Type 0 where
    pub in_use : AreMomentsOf d all.in_use store
    pub fronts : AreFronts 0 all.fronts.items store

  pub record AreAllMomentsOf (all : AllMoments) (store : StoreView D) : Type 0 where
    pub known : AreBehindHand all store
    pub hand : IsAtHand (length all.fronts.items) all.former store
    pub edge : IsEdge all.edge (length all.fronts.items) store

-- ---- which part is at hand

-- it stays the same part: what its store keeps it keeps on
pub record StaysPart (old new : FormerPart) : Type 0 where
  pub keeps : (start : Start) (deeds : List PastDeed) (desktop : Desktop)
      → KeepsWhole in_memory start deeds desktop old.store
      → KeepsWhole in_memory start deeds desktop new.store
  pub moments : AreMomentsOf in_memory old.moments old.store
      → AreMomentsOf in_memory new.moments new.store
  pub front : new.front ≡ old.front
  pub last : new.last ≡ old.last

-- the part that was made of a store in memory, where the one behind it begins there
pub record IsMadeOf (former : StoreView Recorded) (behind : Front) (part : FormerPart)
    : Type 0 where
  pub keeps : (start : Start) (deeds : List PastDeed) (desktop : Desktop)
      → KeepsWhole in_memory start deeds desktop former
      → KeepsWhole in_memory start deeds desktop part.store
  pub moments : AreMomentsOf in_memory part.moments part.store
  pub base : part.front.base ≡ part.moments.extent.base
  pub first : part.front.first ≡ part.moments.extent.first
  pub last : part.last ≡ behind.first
  pub order : part.front.first ≤ part.last

-- These words tell which deed of the part in memory led to moment k; or they are those of its oldest moment.
abbrev pub IsToldWithin : Edge → ℕ → List ℕ → StoreView Recorded → Type 0
IsToldWithin edge k words part =
    BeginsWhere in_memory part (λ start. start.before < k) × IsDeedOf in_memory k words part
    ⊎ BeginsWhere in_memory part (λ start. k ≤ start.before) × (words ≡ oldest_words edge)

-- where the part at hand begins
abbrev pub first_in : Option FormerPart → ℕ → ℕ
first_in None first = first
first_in (Some part) first = part.front.first

abbrev pub first_at_hand : AllMoments → ℕ
first_at_hand all = first_in all.former all.in_use.extent.first

-- It begins before moment k; or no part before it is found.
abbrev pub HasCome : ℕ → AllMoments → Type 0
HasCome k all = (first_at_hand all < k) ⊎ (all.edge ≢ Unknown)

-- That is moment k, or the nearest one: the present, or the oldest moment of the part at hand, where none before is found.
pub data IsNearest (k at : ℕ) (all : AllMoments) : Type 0 where
  itself : at ≡ k → IsNearest k at all
  last : all.in_use.extent.last ≤ k → at ≡ all.in_use.extent.last → IsNearest k at all
  oldest : k < at → at ≡ first_at_hand all → all.edge ≢ Unknown → IsNearest k at all
