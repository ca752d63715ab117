-- What formatting and opening promise, outcome by outcome. `d` is what is known of a disk.
use Rattle.std.specs.Prelude.{◌≡◌, ◌≤◌, ℕ, false}
use Rattle.sector_disk.specs.declared.disk.Disk.{Ghosts}
use Rattle.sector_disk.specs.Trail.{now}
use Rattle.store_slots.specs.declared.error.Error.{Error}
use Rattle.store_slots.specs.declared.error.Error.TheVariants.{NotAStore, Damaged, NoMemory}
use Rattle.store_slots.specs.Load.{HasSlotInUse}
use Rattle.store_layout.specs.declared.layout.TheConstants.{FIRST_LAYOUT, LAYOUT}
use Rattle.store_layout.specs.Finding.{IsForeign, IsDamagedAt}
use Rattle.store_layout.specs.Meaning.{Shows}
use Rattle.desk_journal.specs.View.{StoreView, IsDurable}

module _ {D : Type 0} (d : Ghosts D) where
  -- Ok: the store shows what the disk means, and every crash leaves that
  pub record IsOpened (disk : D) (store : StoreView D) : Type 0 where
    pub found : d.honest disk
        → Shows (d.size disk) store.layout store.epoch store.events store.desktop
        (now (d.trail disk)).reads
    pub durable : IsDurable d store
    -- and nothing is pending: what was found is on the medium
    pub settled : d.honest disk → (n : ℕ) → (now (d.trail store.disk)).pending n ≡ false
    pub usable : store.must_reopen ≡ false
    -- its version is one that there is
    pub first : FIRST_LAYOUT ≤ store.layout
    pub newest : store.layout ≤ LAYOUT

  -- NotAStore and Damaged: the disk is so. They are said of a wrong label, of closed slots and of a bad head whatever
  -- memory there is: at NoMemory the label and the heads were read, and a slot is in use.
  pub record IsNoStore (disk : D) (error : Error) : Type 0 where
    pub foreign : error ≡ NotAStore → d.honest disk
        → IsForeign (d.size disk) (now (d.trail disk)).reads
    pub damaged : (n : ℕ) → error ≡ Damaged n → d.honest disk
        → IsDamagedAt (d.size disk) (now (d.trail disk)).reads n
    pub memory : error ≡ NoMemory → d.honest disk
        → HasSlotInUse (d.size disk) (now (d.trail disk)).reads
