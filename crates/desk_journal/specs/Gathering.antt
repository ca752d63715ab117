-- A desktop with all of its characters in memory, and the store that is let go for it. `d` is what is known of a disk.
use Rattle.std.specs.Prelude.{Result}
use Rattle.sector_disk.specs.declared.disk.Disk.{Ghosts}
use Rattle.sector_disk.specs.Faults.{FailsAs}
use Rattle.desktop_definitions.specs.Desktop.{Desktop, KeptDesktop}
use Rattle.store_slots.specs.declared.error.Error.{Error}
use Rattle.store_slots.specs.declared.error.Error.TheVariants.{Fault}
use Rattle.store_slots.specs.Device.{IsOnlyRead}
use Rattle.store_slots.specs.Errors.{OfLook}
use Rattle.desk_journal.specs.View.{StoreView}

pub record GatheredView : Type 0 where
  -- what it shows, whatever a disk reads
  pub desktop : Desktop
  -- the same as it is kept, each character by its offset
  pub kept : KeptDesktop

-- The disk of a store as a call lets it go that hands out no disk: it was only read, and Fault comes exactly where it
-- counted a failure.
pub record LetsGo {D T : Type 0} (d : Ghosts D) (answer : Result T Error) (store : StoreView D)
    : Type 0 where
  pub disk : D
  pub read : IsOnlyRead d store.disk disk
  pub faults : FailsAs Fault OfLook answer (d.failures store.disk) (d.failures disk)
