-- A turn of a store with a past to one of its moments. `d` is what is known of a disk.
use Rattle.std.specs.Prelude.{◌≡◌, ◌⊎◌, ◌++◌, ◌∷◌, ◌≤◌, [], ℕ, List, length, true}
use Rattle.sector_disk.specs.declared.disk.Disk.{Ghosts}
use Rattle.sector_disk.specs.Trail.{LeavesOnly}
use Rattle.desktop_definitions.specs.Desktop.{Desktop}
use Rattle.store_layout.specs.declared.layout.TheConstants.{STORE_SECTORS}
use Rattle.desk_journal.specs.Gathering.{GatheredView}
use Rattle.desk_journal.specs.Turning.{IsTurnedTo, LeavesThisOrThat}
use Rattle.desk_journal.specs.Undoing.{IsLeft}
use Rattle.desk_journal.specs.View.{StoreView}
use Rattle.past_pages.specs.Reading.{IsOnlyReadFrom}
use Rattle.past_pages.specs.Copies.{Sectors}
use Rattle.past_pages.specs.Page.{Page, IsGoodPage, copy_of, turn_of}
use Rattle.desk_past.specs.Ahead.{CanAdd}
use Rattle.desk_past.specs.Chain.{SpansOf, WasInSpans}
use Rattle.desk_past.specs.Deeds.{PastDeed, turned}
use Rattle.desk_past.specs.Going.{LiesInPart}
use Rattle.desk_past.specs.Past.{HasMoment, KeepsAll, Remembers, Start, moment}

module _ {D : Type 0} (d : Ghosts D) where
  -- a past that the store keeps
  pub record PastOf (store : StoreView D) : Type 0 where
    pub start : Start
    pub deeds : List PastDeed
    pub desktop : Desktop
    pub keeps : KeepsAll d start deeds desktop store
    pub honest : d.honest store.disk

  -- at its moment k the desktop was this one
  pub record WasAt (k : ℕ) (to : Desktop) {store : StoreView D} (past : PastOf store)
      : Type 0 where
    pub there : HasMoment past.start past.deeds k
    pub is : to ≡ moment past.start past.deeds k

  -- and it has room for the page of a turn to that moment
  pub record CanTurnTo (k : ℕ) (to : Desktop) (store : StoreView D) : Type 0 where
    pub past : PastOf store
    pub was : WasAt k to past
    pub add : CanAdd d (turn_of k to) past.keeps

  -- At every moment of the call a crash leaves all deeds from before it, and the desktop to which they led, or these
  -- and a turn, and this desktop.
  abbrev pub LeavesTurned : Desktop → {old : StoreView D} → PastOf old → StoreView D → Type 0
  LeavesTurned to {old = old} past new = LeavesOnly (d.trail old.disk) (d.trail new.disk)
      (λ c. Remembers (d.size old.disk) past.start past.deeds past.desktop c
      ⊎ Remembers (d.size old.disk) past.start (past.deeds ++ turned to ∷ []) to c)

  -- it kept the former, and keeps the latter now
  abbrev pub KeepsTurned : Desktop → {old : StoreView D} → PastOf old → StoreView D → Type 0
  KeepsTurned to past new = KeepsAll d past.start (past.deeds ++ turned to ∷ []) to new

  -- ---- to a desktop that is known

  -- nothing is forgotten, where that was the desktop at moment k
  abbrev pub TurnsTo : ℕ → Desktop → StoreView D → StoreView D → Type 0
  TurnsTo k to old new = (past : PastOf old) → WasAt k to past → LeavesTurned to past new

  abbrev pub HasTurnedTo : ℕ → Desktop → StoreView D → StoreView D → Type 0
  HasTurnedTo k to old new = (past : PastOf old) → WasAt k to past → KeepsTurned to past new

  -- True: the store shows that desktop, and where it was that at moment k its past goes on over the turn.
  pub record ComesToMoment (k : ℕ) (to : GatheredView) (old new : StoreView D) : Type 0 where
    pub shows : IsTurnedTo d to old new
    pub past : HasTurnedTo k to.desktop old new

  -- False: nothing was written, and the past couldn't take the turn.
  pub record StaysUnturned (Can : Type 0) (old new : StoreView D) : Type 0 where
    pub still : IsOnlyReadFrom d old new
    pub none : Can → ⊥

  -- ---- to one that is worked out, of a past in a part

  -- nothing is forgotten
  abbrev pub TurnsBack : ℕ → StoreView D → StoreView D → Type 0
  TurnsBack k old new = (past : PastOf old) → LiesInPart d past.keeps
      → LeavesTurned (moment past.start past.deeds k) past new

  -- and there is such a moment
  abbrev pub HasTurnedBack : ℕ → StoreView D → StoreView D → Type 0
  HasTurnedBack k old new = (past : PastOf old) → LiesInPart d past.keeps
      → HasMoment past.start past.deeds k × KeepsTurned (moment past.start past.deeds k) past new

  -- ---- to one of any part

  -- this was the desktop at moment k of each past in a part that the store keeps, there or in the parts before
  pub record WasThenAt (k : ℕ) (to : Desktop) (store : StoreView D) : Type 0 where
    pub in_use : (past : PastOf store) → LiesInPart d past.keeps
        → HasMoment past.start past.deeds k → to ≡ moment past.start past.deeds k
    pub over_parts : (past : PastOf store) → LiesInPart d past.keeps
        → (spans : List (Start × List Page)) (are : SpansOf d past.keeps spans) (was : Desktop)
        → WasInSpans d past.keeps spans are k was → to ≡ was

  -- At every moment of the call a crash leaves what there was, or the desktop of that moment, and of a past all deeds,
  -- or these and the turn.
  pub record LeavesFar (k : ℕ) (old new : StoreView D) : Type 0 where
    pub to : Desktop
    pub was : WasThenAt k to old
    pub either : LeavesThisOrThat d to old new
    pub past : (past : PastOf old) → LeavesTurned to past new

  -- nothing is forgotten: nothing was written, or it goes so
  abbrev pub TurnsFar : ℕ → StoreView D → StoreView D → Type 0
  TurnsFar k old new = IsLeft d old new ⊎ LeavesFar k old new

  -- True: the store shows that desktop, and its past goes on over the turn.
  pub record HasTurnedFar (k : ℕ) (old new : StoreView D) : Type 0 where
    pub to : GatheredView
    pub was : WasThenAt k to.desktop old
    pub shows : IsTurnedTo d to old new
    pub past : (past : PastOf old) → KeepsTurned to.desktop past new

  -- there is room for each page of a far turn to this desktop that has it as no more sectors than a store has
  abbrev pub CanAddCopy : Desktop → {store : StoreView D} → PastOf store → Type 0
  CanAddCopy to past = (sectors : Sectors) → length sectors ≤ STORE_SECTORS
      → IsGoodPage (copy_of true sectors to) → CanAdd d (copy_of true sectors to) past.keeps

  -- the past in use, or a part before, has such a moment, and there is room for a page with its desktop
  pub record CanTurnFar (k : ℕ) (store : StoreView D) : Type 0 where
    pub past : PastOf store
    pub lies : LiesInPart d past.keeps
    pub to : Desktop
    pub there : WasAt k to past
        ⊎ (spans : List (Start × List Page)) × (are : SpansOf d past.keeps spans)
        × WasInSpans d past.keeps spans are k to
    pub add : CanAddCopy to past
