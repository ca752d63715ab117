-- How far a past reaches, and its moments, counted back from the present. `d` is what is known of a disk.
use Rattle.std.specs.Prelude.{◌≡◌, ◌+◌, ◌-◌, ◌<◌, ◌≤◌, ◌^◌, ◌==◌, ℕ, Bool, List, false, length, Option, None, Result, Ok, Err}
use Rattle.sector_disk.specs.declared.disk.Disk.{Ghosts}
use Rattle.sector_disk.specs.Trail.{now}
use Rattle.event_bytes.specs.declared.event.Event.{Event}
use Rattle.past_pages.specs.Page.{Page}
use Rattle.desk_past.specs.Deeds.{PastDeed}
use Rattle.desk_past.specs.Going.{LiesInPart}
use Rattle.desk_past.specs.Past.{HasPages, end_of_pages, AreGood, KeepsAll, Start, all_deeds, first_page, moment}
use Rattle.desk_past.specs.Turning.{PastOf}
use Rattle.desktop_definitions.specs.Desktop.{Desktop}
use Rattle.store_slots.specs.declared.error.Error.{Error}
use Rattle.store_slots.specs.declared.error.Error.TheVariants.{Damaged, NotAStore}
use Rattle.desk_journal.specs.Undoing.{IsTakenBack}
use Rattle.desk_journal.specs.View.{StoreView}
use Rattle.told_pasts.specs.declared.reach.Reach.{Reach}

-- these are the numbers of a past
pub record IsReach {D : Type 0} (d : Ghosts D) {start : Start} {deeds : List PastDeed}
    {desktop : Desktop} {store : StoreView D} (keeps : KeepsAll d start deeds desktop store)
    (reach : Reach)
    : Type 0 where
  pub base : reach.part.base ≡ start.base
  pub next : reach.next ≡ keeps.remembers.standing.past.next
  pub before : reach.before ≡ keeps.remembers.standing.past.before
  pub journal : reach.journal ≡ length keeps.remembers.standing.events

-- a store keeps a past in a part
abbrev pub KeepsInPart : {D : Type 0} → Ghosts D → StoreView D → Type 0
KeepsInPart d store = (past : PastOf d store) × LiesInPart d past.keeps

-- and so many of its last deeds lie there
abbrev pub KeepsBack : {D : Type 0} → Ghosts D → ℕ → StoreView D → Type 0
KeepsBack d count store = (past : PastOf d store) × LiesInPart d past.keeps
    × (count ≤ length past.deeds) × (past.start.before + length past.deeds < 2 ^ 64)

-- a past that a store keeps has these numbers, and its first page stands in this sector
pub record HasReach {D : Type 0} (d : Ghosts D) (store : StoreView D) (reach : Reach) (first : ℕ)
    : Type 0 where
  pub past : PastOf d store
  pub numbers : IsReach d past.keeps reach
  pub at : first ≡ first_page past.start

-- from this sector up to that one there are pages of a store in use, and a number of eight bytes counts their deeds
pub record HasCountable {D : Type 0} (d : Ghosts D) (store : StoreView D) (first end : ℕ)
    : Type 0 where
  pub usable : store.must_reopen ≡ false
  pub honest : d.honest store.disk
  pub pages : List Page
  pub written : HasPages (now (d.trail store.disk)).reads first pages
  pub good : AreGood pages
  pub up_to : end_of_pages first pages ≡ end
  pub room : end ≤ d.size store.disk
  pub few : length (all_deeds pages) < 2 ^ 64

-- the desktop of a past from before so many of its last deeds
abbrev pub moment_before : Start → List PastDeed → ℕ → Desktop
moment_before start deeds count = moment start deeds (start.before + length deeds - count)

-- the last events were taken back, at most so many, and this says whether there were so many
abbrev pub GoesBackBy : {D : Type 0} → Ghosts D → ℕ → Bool → StoreView D → StoreView D → Type 0
GoesBackBy d count all old new = (events : List Event) × IsTakenBack d count events old new
    × (all ≡ (length events == count))

-- what was found, and none where no start stands there, or a damaged one
abbrev pub none_if_missing : {T : Type 0} → Result (Option T) Error → Result (Option T) Error
none_if_missing (Err NotAStore) = Ok None
none_if_missing (Err (Damaged at)) = Ok None
none_if_missing found = found
