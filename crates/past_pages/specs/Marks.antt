-- Pages with a desktop, as they are made and read.
use Rattle.std.specs.Prelude.{◌≡◌, ◌⊎◌, ◌≤◌, ◌<◌, ℕ, Bool, List, false, length}
use Rattle.sector_disk.specs.Trail.{Content, now}
use Rattle.sector_disk.specs.declared.disk.Disk.{Ghosts}
use Rattle.desktop_definitions.specs.Desktop.{Desktop}
use Rattle.store_layout.specs.declared.layout.TheConstants.{STORE_SECTORS}
use Rattle.store_layout.specs.Meaning.{Means}
use Rattle.store_slots.specs.declared.error.Error.{Error}
use Rattle.store_slots.specs.declared.error.Error.TheVariants.{Damaged, NotAStore}
use Rattle.desk_journal.specs.View.{StoreView}
use Rattle.past_pages.specs.Copies.{Sectors, AreSectors, laid_sectors}
use Rattle.past_pages.specs.Page.{IsGoodPage, copy_of, page_bytes, sector_spellings}

-- these bytes spell sectors of a store, which on a disk of zeros give what the content has there
pub record HasSpelled (c : Content) (bytes : List ℕ) : Type 0 where
  pub sectors : Sectors
  pub spelled : bytes ≡ sector_spellings sectors
  pub are : AreSectors sectors
  pub same : (n : ℕ) → n < STORE_SECTORS → laid_sectors sectors n ≡ c n

-- these bytes are a page of this kind that has this desktop, as no more sectors than a store has
pub record IsCopyPage (far : Bool) (to : Desktop) (bytes : List ℕ) : Type 0 where
  pub sectors : Sectors
  pub are : bytes ≡ page_bytes (copy_of far sectors to)
  pub few : length sectors ≤ STORE_SECTORS
  pub good : IsGoodPage (copy_of far sectors to)

-- no store stands there, or a damaged one
abbrev pub IsUnstored : Error → Type 0
IsUnstored e = (e ≡ NotAStore) ⊎ ((n : ℕ) × (e ≡ Damaged n))

module _ {E : Type 0} (e : Ghosts E) where
  -- a disk, which is honest, holds a store that shows this desktop
  pub record IsShownOn (to : Desktop) (disk : E) : Type 0 where
    pub honest : e.honest disk
    pub large : STORE_SECTORS ≤ e.size disk
    pub means : Means (e.size disk) to (now (e.trail disk)).reads

  -- a store in use, over a disk that is honest, shows this desktop
  pub record ShowsCopy (to : Desktop) (store : StoreView E) : Type 0 where
    pub usable : store.must_reopen ≡ false
    pub honest : e.honest store.disk
    pub desktop : store.desktop ≡ to
