-- Moments of a past that are worked out in memory. `d` is what is known of a disk.
use Rattle.std.specs.Prelude.{◌≡◌, ◌+◌, ◌-◌, ℕ, List, ◌∷◌, ◌++◌, length, slice_get, All, IfSome, Result, Err}
use Rattle.sector_disk.specs.Trail.{now}
use Rattle.sector_disk.specs.declared.disk.Disk.{Ghosts}
use Rattle.desktop_definitions.specs.Desktop.{Desktop}
use Rattle.store_slots.specs.declared.error.Error.{Error}
use Rattle.store_slots.specs.declared.error.Error.TheVariants.{Fault, NoMemory}
use Rattle.desk_journal.specs.View.{StoreView}
use Rattle.past_pages.specs.Page.{Page, page_sectors}
use Rattle.past_pages.specs.Reading.{HasCopy}
use Rattle.past_pages.specs.declared.pages.PageKind.{PageKind}
use Rattle.past_pages.specs.declared.pages.PageKind.TheVariants as which
use Rattle.desk_past.specs.Going.{LiesInPart}
use Rattle.desk_past.specs.Past.{deeds_in, end_of_pages, all_deeds, first_page, moment}
use Rattle.desk_past.specs.Turning.{PastOf, WasAt}
use Rattle.past_moments.specs.Words.{led_words, told_at}
use Rattle.past_moments.specs.declared.extent.Extent.{Extent}
use Rattle.past_moments.specs.declared.extent.Place.{Place}
use Rattle.past_moments.specs.declared.legs.Leg.{Leg}
use Rattle.past_moments.specs.declared.legs.Source.{Source}
use Rattle.past_moments.specs.declared.legs.Source.TheVariants.{Copy, Kept, Moment}
use Rattle.past_moments.specs.declared.marks.Mark.{Mark}
use Rattle.past_moments.specs.declared.marks.Marks.{Marks}
use Rattle.past_moments.specs.declared.moments.Moments.{Moments}

module _ {D : Type 0} (d : Ghosts D) {store : StoreView D} (past : PastOf d store) where
  -- the past reaches so far
  pub record IsExtentIn (extent : Extent) : Type 0 where
    pub base : extent.base ≡ past.start.base
    pub first : extent.first ≡ past.start.before
    pub end : extent.end ≡ past.keeps.remembers.standing.past.next
    pub before : extent.before ≡ past.keeps.remembers.standing.past.before
    pub journal : extent.journal.items ≡ past.keeps.remembers.standing.events
    pub last : extent.last
        ≡ past.keeps.remembers.standing.past.before + length past.keeps.remembers.standing.events

  -- behind these of its pages another one begins at this place, or the journal in use
  pub record IsPlaceIn (place : Place) : Type 0 where
    pub front : List Page
    pub todo : List Page
    pub parts : past.keeps.remembers.pages ≡ front ++ todo
    pub at : place.at ≡ end_of_pages (first_page past.start) front
    pub count : place.k ≡ past.start.before + length (all_deeds front)

  -- the page at this place is such a page, and ends at that place
  pub record IsPageIn (place : Place) (such : Page → Type 0) (next : Place) : Type 0 where
    pub front : List Page
    pub page : Page
    pub todo : List Page
    pub parts : past.keeps.remembers.pages ≡ front ++ page ∷ todo
    pub at : place.at ≡ end_of_pages (first_page past.start) front
    pub count : place.k ≡ past.start.before + length (all_deeds front)
    pub is : such page
    pub next_at : next.at ≡ place.at + page_sectors page
    pub next_count : next.k ≡ place.k + length (deeds_in page)

module _ {D : Type 0} (d : Ghosts D) where
  -- the same of each past that the store keeps in a part
  abbrev pub IsExtentOf : Extent → StoreView D → Type 0
  IsExtentOf extent store = (past : PastOf d store) → LiesInPart d past.keeps
      → IsExtentIn d past extent

  abbrev pub IsPagePlace : Place → StoreView D → Type 0
  IsPagePlace place store = (past : PastOf d store) → LiesInPart d past.keeps
      → IsPlaceIn d past place

  abbrev pub IsPageOf : Place → (Page → Type 0) → Place → StoreView D → Type 0
  IsPageOf place such next store = (past : PastOf d store) → LiesInPart d past.keeps
      → IsPageIn d past place such next

  -- this was the desktop at its moment k
  abbrev pub IsDesktopAt : ℕ → Desktop → StoreView D → Type 0
  IsDesktopAt k desktop store = (past : PastOf d store) → LiesInPart d past.keeps
      → WasAt d k desktop past

  -- these words tell what led to its moment k
  abbrev pub IsToldOf : ℕ → List ℕ → StoreView D → Type 0
  IsToldOf k words store = (past : PastOf d store) → LiesInPart d past.keeps
      → words ≡ led_words past.start past.deeds k

  -- and that there is one
  abbrev pub IsDeedOf : ℕ → List ℕ → StoreView D → Type 0
  IsDeedOf k words store = (past : PastOf d store) → LiesInPart d past.keeps
      → words ≡ told_at (moment past.start past.deeds (k - 1))
      (slice_get past.deeds (k - 1 - past.start.before))

  -- its last moment is that one
  abbrev pub IsLastOf : ℕ → StoreView D → Type 0
  IsLastOf k store = (past : PastOf d store) → LiesInPart d past.keeps
      → k ≡ past.start.before + length past.deeds

  -- at moment k it was what it was at the other moment
  abbrev pub IsSameMoment : ℕ → ℕ → StoreView D → Type 0
  IsSameMoment k other store = (past : PastOf d store) → LiesInPart d past.keeps
      → moment past.start past.deeds k ≡ moment past.start past.deeds other

  -- a leg goes from there to this place
  abbrev pub GoesFrom : Place → Source → StoreView D → Type 0
  GoesFrom place Kept store = Unit {0}
  GoesFrom place (Moment k) store = IsSameMoment place.k k store
  GoesFrom place (Copy at) store = (past : PastOf d store) → LiesInPart d past.keeps
      → HasCopy (now (d.trail store.disk)).reads at past.keeps.remembers.standing.past.next
      (moment past.start past.deeds place.k)

  -- a mark shows what it was at its place
  pub record IsMarkOf (mark : Mark) (store : StoreView D) : Type 0 where
    pub place : IsPagePlace mark.place store
    pub shown : IsDesktopAt mark.place.k mark.shown.desktop store

  pub record AreMarksOf (marks : Marks) (store : StoreView D) : Type 0 where
    pub each : All (λ mark. IsMarkOf mark store) marks.marks.items
    pub near : IfSome marks.near (λ mark. IsMarkOf mark store)

  -- what is known of a past
  pub record AreMomentsOf (moments : Moments) (store : StoreView D) : Type 0 where
    pub extent : IsExtentOf moments.extent store
    pub marks : AreMarksOf moments.marks store

-- the last leg behind a page in this sector that ends at this place: behind a turn another one begins, and so it does behind
-- a desktop
abbrev pub leg_behind : Leg → PageKind → ℕ → Place → Leg
leg_behind leg (which.Turn to) at place = record { place = place; from = Moment to }
leg_behind leg which.FarTurn at place = record { place = place; from = Copy at }
leg_behind leg which.Mark at place = record { place = place; from = Copy at }
leg_behind leg kind at place = leg

-- what was made of a disk in memory, whose faults are want of memory
abbrev pub of_memory : {T : Type 0} → Result T Error → Result T Error
of_memory (Err Fault) = Err NoMemory
of_memory made = made
