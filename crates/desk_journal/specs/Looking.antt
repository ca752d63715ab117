-- What a look at a store promises beside its value. `d` is what is known of a disk.
use Rattle.std.specs.Prelude.{◌≡◌, ◌↔◌, true, Result, IsErrOf}
use Rattle.sector_disk.specs.declared.disk.Disk.{Ghosts}
use Rattle.sector_disk.specs.Faults.{FailsAs}
use Rattle.store_slots.specs.declared.error.Error.{Error}
use Rattle.store_slots.specs.declared.error.Error.TheVariants.{Fault, MustReopen}
use Rattle.store_slots.specs.Device.{IsOnlyRead}
use Rattle.store_slots.specs.Errors.{OfLook}
use Rattle.desk_journal.specs.View.{StoreView}

-- It only looks, whatever it returns.
pub record OnlyLooks {D T : Type 0} (d : Ghosts D) (result : Result T Error) (old new : StoreView D)
    : Type 0 where
  -- what the store shows stays, and over every disk what it keeps
  pub desktop : d.honest old.disk → new.desktop ≡ old.desktop
  pub kept : new.kept ≡ old.kept
  pub layout : new.layout ≡ old.layout
  pub epoch : new.epoch ≡ old.epoch
  pub events : new.events ≡ old.events
  pub usable : new.must_reopen ≡ old.must_reopen
  -- the disk is only read
  pub disk : IsOnlyRead d old.disk new.disk
  -- MustReopen comes exactly where an earlier post failed
  pub reopen : IsErrOf result MustReopen ↔ (old.must_reopen ≡ true)
  pub faults : FailsAs Fault OfLook result (d.failures old.disk) (d.failures new.disk)
