-- A store as its callers see it.
use Rattle.std.specs.Prelude.{ℕ, Bool}
use Rattle.sector_disk.specs.declared.disk.Disk.{Ghosts}
use Rattle.sector_disk.specs.Trail.{now, Leaves}
use Rattle.desktop_definitions.specs.Desktop.{Desktop, KeptDesktop}
use Rattle.store_layout.specs.Meaning.{Shows}

pub record StoreView (D : Type 0) : Type 0 where
  -- the disk that it stands on
  pub disk : D
  -- what it shows
  pub desktop : Desktop
  -- the same as it is kept, each character by its offset, which is known of every disk
  pub kept : KeptDesktop
  -- the version and the epoch of the slot in use, and how many events its journal has
  pub layout : ℕ
  pub epoch : ℕ
  pub events : ℕ
  -- a call has failed in the middle of its work: only closing the store and opening it again helps
  pub must_reopen : Bool

-- a crash now leaves what the store shows
abbrev pub IsDurable : {D : Type 0} → Ghosts D → StoreView D → Type 0
IsDurable d store = d.honest store.disk
    → Leaves (now (d.trail store.disk))
    (Shows (d.size store.disk) store.layout store.epoch store.events
    store.desktop)
