-- Which errors come where a past is read, and done once more in memory. `d` is what is known of a disk.
use Rattle.std.specs.Prelude.{◌≡◌, true, Result, Err, IfErr, IsErrOf}
use Rattle.sector_disk.specs.declared.disk.Disk.{Ghosts}
use Rattle.sector_disk.specs.Faults.{FailsAs}
use Rattle.store_slots.specs.declared.error.Error.{Error}
use Rattle.store_slots.specs.declared.error.Error.TheVariants.{Fault, MustReopen, NoMemory}
use Rattle.desk_journal.specs.View.{StoreView}
use Rattle.desk_past.specs.Errors.{OfMoment, OfSteps}

-- Failures of the device are counted, and MustReopen comes only of a store that must be opened again. Where that much
-- is known of the store neither a start nor a page is missing.
pub record StopsAs {D T : Type 0} (d : Ghosts D) (known : Type 0) (result : Result T Error)
    (old new : StoreView D)
    : Type 0 where
  pub faults : FailsAs Fault OfMoment result (d.failures old.disk) (d.failures new.disk)
  pub reopen : IsErrOf result MustReopen → old.must_reopen ≡ true
  pub stops : IfErr result (λ e. known → OfSteps e)

-- What a call over a store in memory returned: its disk fails for want of memory alone, and only behind that it must be
-- opened again.
abbrev pub as_in_memory : {T : Type 0} → Result T Error → Result T Error
as_in_memory (Err Fault) = Err NoMemory
as_in_memory (Err MustReopen) = Err NoMemory
as_in_memory done = done
