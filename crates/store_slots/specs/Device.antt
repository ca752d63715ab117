-- What a call leaves of the disk that a store stands on. `d` is what is known of a disk: size, trail, failures, honest.
use Rattle.std.specs.Prelude.{◌≡◌, ◌<◌, Result, Ok, Err}
use Rattle.sector_disk.specs.declared.disk.Disk.{Ghosts}
use Rattle.sector_disk.specs.Trail.{Trail, now, IsCrashImage, LeavesOnly}
use Rattle.sector_disk.specs.Confined.{IsConfined}
use Rattle.store_layout.specs.declared.layout.TheConstants.{STORE_SECTORS}
use Rattle.sector_disk.specs.Faults.{FailsAs}
use Rattle.store_slots.specs.declared.error.Error.{Error}
use Rattle.store_slots.specs.declared.error.Error.TheVariants.{Fault}

-- at no moment is there an image that wasn't there before: nothing was written
abbrev pub WritesNothing : Trail → Trail → Type 0
WritesNothing old new = LeavesOnly old new (IsCrashImage (now old))

-- the same device: as large as before, and honest exactly if it was
pub record IsSameDevice {D : Type 0} (d : Ghosts D) (old new : D) : Type 0 where
  pub as_large : d.size new ≡ d.size old
  pub still : d.honest old → d.honest new
  pub already : d.honest new → d.honest old

-- the same device, and where it is honest no sector but those of a store was touched at any moment
abbrev pub StaysWithin : {D : Type 0} → Ghosts D → D → D → Type 0
StaysWithin d old new = IsConfined d.size d.honest d.trail (λ n. n < STORE_SECTORS) old new

-- What a call that may write leaves of the disk, whatever it returns: the same device, within the sectors of a store,
-- and Fault exactly where a failure was counted.
pub record UsesDisk {D T : Type 0} (d : Ghosts D) (OfCall : Error → Type 0)
    (result : Result T Error) (old new : D)
    : Type 0 where
  pub device : IsSameDevice d old new
  pub within : StaysWithin d old new
  pub faults : FailsAs Fault OfCall result (d.failures old) (d.failures new)

-- only reads: the same device, to which nothing was written
pub record IsOnlyRead {D : Type 0} (d : Ghosts D) (old new : D) : Type 0 where
  pub device : IsSameDevice d old new
  pub unwritten : d.honest old → WritesNothing (d.trail old) (d.trail new)

-- A call that takes a disk hands one back, whatever it returns: in its value, or beside its error.
abbrev pub disk_after : {A D : Type 0} → (A → D) → Result A (Error × D) → D
disk_after disk_of (Ok value) = disk_of value
disk_after disk_of (Err refused) = refused.1

-- its result without the disk that stands beside an error
abbrev pub result_of : {A D : Type 0} → Result A (Error × D) → Result A Error
result_of (Ok value) = Ok value
result_of (Err refused) = Err refused.0
