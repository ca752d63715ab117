-- The store as it was when a part of its past began, with the past that it had then. `e` is what is known of a disk.
use Rattle.std.specs.Prelude.{◌≡◌, ◌+◌, ◌<◌, ◌≤◌, ℕ, List}
use Rattle.sector_disk.specs.declared.disk.Disk.{Ghosts}
use Rattle.sector_disk.specs.Trail.{Content, now}
use Rattle.desktop_definitions.specs.Desktop.{Desktop}
use Rattle.store_layout.specs.declared.layout.TheConstants.{STORE_SECTORS}
use Rattle.store_layout.specs.Meaning.{Standing}
use Rattle.desk_journal.specs.View.{StoreView}
use Rattle.past_pages.specs.Parts.{GoesOnIn, IsPastPart}
use Rattle.past_pages.specs.Laying.{StandsFrom}
use Rattle.desk_past.specs.Deeds.{PastDeed}
use Rattle.desk_past.specs.Going.{LiesInPart}
use Rattle.desk_past.specs.Past.{KeepsAll, Start}
use Rattle.desk_past.specs.Reading.{ShowsNow}
use Rattle.desk_past.specs.Writing.{HasFormerPast}
use Rattle.former_stores.specs.declared.former.Stretch.{Stretch}
use Rattle.former_stores.specs.declared.former.Told.{Told}

-- ---- the part before

-- From this sector on a start stands, whose head tells of pages in a part. That part's own start stands, and is older: it
-- hasn't begun anew.
pub record HasPartBefore (size base : ℕ) (c : Content) : Type 0 where
  pub room : base + STORE_SECTORS ≤ size
  pub standing : Standing
  pub stands : StandsFrom c base standing
  pub from : ℕ
  pub end : ℕ
  pub part : IsPastPart size from end
  pub goes_on : GoesOnIn from end standing.past.next
  pub first : Standing
  pub begins : StandsFrom c from first
  pub older : first.epoch < standing.epoch

-- these are the sectors of that part, up to the one of which is told
abbrev pub AreSectorsBefore : {size base : ℕ} {c : Content} → HasPartBefore size base c → Stretch
    → Type 0
AreSectorsBefore has stretch =
    (stretch.from ≡ has.from) × (stretch.from + stretch.count ≡ has.standing.past.next)

-- a start stands from this sector on, and this is what it says of itself
pub record SaysOfStart (c : Content) (base : ℕ) (told : Told) : Type 0 where
  pub standing : Standing
  pub stands : StandsFrom c base standing
  pub epoch : told.epoch ≡ standing.epoch
  pub next : told.next ≡ standing.past.next

-- The store shows what the start from this sector on shows. It is on a disk as large, which has the sectors of the part
-- before, up to the one of which that start tells.
pub record IsFormerStore {E : Type 0} (e : Ghosts E) (size base : ℕ) (c : Content)
    (store : StoreView E)
    : Type 0 where
  pub has : HasPartBefore size base c
  pub shows : ShowsNow e has.standing store
  pub large : e.size store.disk ≡ size
  pub pages : (n : ℕ) → has.from ≤ n → n < has.standing.past.next
      → (now (e.trail store.disk)).reads n ≡ c n

-- ---- the past that it keeps

-- The content has the former past, before the part that begins in this sector. Its start is older than that part's: its
-- own part hasn't begun anew.
pub record IsFormer (size base : ℕ) (start : Start) (deeds : List PastDeed) (desktop : Desktop)
    (c : Content)
    : Type 0 where
  pub has : HasFormerPast size base start deeds desktop c
  pub older : has.remembers.past.written.0.standing.epoch < has.remembers.standing.epoch

-- a store in use keeps the past, in a part
abbrev pub KeepsWhole : {D : Type 0} → Ghosts D → Start → List PastDeed → Desktop → StoreView D
    → Type 0
KeepsWhole d start deeds desktop store =
    (keeps : KeepsAll d start deeds desktop store) × LiesInPart d keeps
