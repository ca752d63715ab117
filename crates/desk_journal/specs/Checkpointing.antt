-- What a checkpoint promises, outcome by outcome. `d` is what is known of a disk.
use Rattle.std.specs.Prelude.{◌≡◌, ◌+◌, Result, OnOk, IsErrOf, false}
use Rattle.sector_disk.specs.declared.disk.Disk.{Ghosts}
use Rattle.sector_disk.specs.Trail.{LeavesOnly}
use Rattle.store_layout.specs.declared.layout.TheConstants.{LAYOUT}
use Rattle.store_layout.specs.Meaning.{Means}
use Rattle.store_slots.specs.declared.error.Error.{Error}
use Rattle.store_slots.specs.declared.error.Error.TheVariants.{Fault, Worn}
use Rattle.store_slots.specs.Errors.{OfCheckpoint}
use Rattle.desk_journal.specs.Posting.{TurnsAway, IsBroken, IsLast, Behaves}
use Rattle.desk_journal.specs.View.{StoreView, IsDurable}

module _ {D : Type 0} (d : Ghosts D) where
  -- at every moment of the call a crash leaves the desktop
  abbrev pub LeavesDesktop : StoreView D → StoreView D → Type 0
  LeavesDesktop old new = old.must_reopen ≡ false → d.honest old.disk
      → LeavesOnly (d.trail old.disk) (d.trail new.disk) (Means (d.size old.disk) old.desktop)

  -- Ok: the desktop stands in the other slot, which is in use now, in the newest version and with an empty journal
  pub record IsRenewed (old new : StoreView D) : Type 0 where
    pub desktop : d.honest old.disk → new.desktop ≡ old.desktop
    pub kept : new.kept ≡ old.kept
    pub layout : new.layout ≡ LAYOUT
    pub epoch : new.epoch ≡ old.epoch + 1
    pub events : new.events ≡ 0
    -- from now on a crash leaves that
    pub durable : IsDurable d new
    pub usable : new.must_reopen ≡ false

  -- All that a checkpoint promises where it returns this.
  pub record IsCheckpointed {T : Type 0} (answer : Result T Error) (old new : StoreView D)
      : Type 0 where
    pub any_moment : LeavesDesktop old new
    pub ok : OnOk answer (IsRenewed old new)
    pub fault : IsErrOf answer Fault → IsBroken new
    pub worn : TurnsAway (IsErrOf answer Worn) (IsLast old) old new
    pub behaves : Behaves d OfCheckpoint answer old new
