-- What a turn promises, outcome by outcome: a store comes to show another desktop. `d` is what is known of a disk.
use Rattle.std.specs.Prelude.{◌≡◌, false}
use Rattle.sector_disk.specs.declared.disk.Disk.{Ghosts}
use Rattle.sector_disk.specs.Trail.{LeavesOnly}
use Rattle.desktop_definitions.specs.Desktop.{Desktop}
use Rattle.store_layout.specs.Meaning.{MeansEither}
use Rattle.desk_journal.specs.Bringing.{IsInNextSlot}
use Rattle.desk_journal.specs.Gathering.{GatheredView}
use Rattle.desk_journal.specs.View.{StoreView, IsDurable}

module _ {D : Type 0} (d : Ghosts D) where
  -- at every moment of the call a crash leaves the desktop from before it or this one
  abbrev pub LeavesThisOrThat : Desktop → StoreView D → StoreView D → Type 0
  LeavesThisOrThat desktop old new = old.must_reopen ≡ false → d.honest old.disk
      → LeavesOnly (d.trail old.disk) (d.trail new.disk)
      (MeansEither (d.size old.disk) old.desktop desktop)

  -- Ok: the store shows this desktop, which stands in the other slot, and that is in use now
  pub record IsTurnedTo (to : GatheredView) (old new : StoreView D) : Type 0 where
    pub desktop : d.honest old.disk → new.desktop ≡ to.desktop
    pub kept : new.kept ≡ to.kept
    pub next : IsInNextSlot old new
    -- from now on a crash leaves that desktop
    pub durable : IsDurable d new
    pub usable : new.must_reopen ≡ false
