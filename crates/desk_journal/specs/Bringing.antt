-- What bringing documents promises, outcome by outcome. `d` is what is known of a disk.
use Rattle.std.specs.Prelude.{◌≡◌, ◌+◌, ℕ, false, true}
use Rattle.sector_disk.specs.declared.disk.Disk.{Ghosts}
use Rattle.sector_disk.specs.Trail.{LeavesOnly}
use Rattle.desktop_definitions.specs.declared.reply.Reply.{Reply}
use Rattle.desktop_definitions.specs.declared.reply.Reply.TheVariants.{Done, No}
use Rattle.document_filing.specs.Bringing.{Documents, brought_in}
use Rattle.document_filing.specs.Bringing.{IsBringing}
use Rattle.store_layout.specs.declared.layout.TheConstants.{LAYOUT}
use Rattle.store_layout.specs.Meaning.{MeansEither}
use Rattle.store_slots.specs.Device.{IsOnlyRead}
use Rattle.desk_journal.specs.View.{StoreView, IsDurable}

-- in the newest version, with an empty journal, in the slot that comes next
pub record IsInNextSlot {D : Type 0} (old new : StoreView D) : Type 0 where
  pub layout : new.layout ≡ LAYOUT
  pub epoch : new.epoch ≡ old.epoch + 1
  pub events : new.events ≡ 0

module _ {D : Type 0} (d : Ghosts D) where
  -- at every moment of the call a crash leaves the desktop from before it or the one with all documents
  abbrev pub LeavesAllOrNone : Documents → StoreView D → StoreView D → Type 0
  LeavesAllOrNone documents old new = old.must_reopen ≡ false → d.honest old.disk
      → LeavesOnly (d.trail old.disk) (d.trail new.disk)
      (MeansEither (d.size old.disk) old.desktop (brought_in old.desktop documents).desktop)

  -- No: the store is as it was, and nothing was written
  pub record AreRefused (old new : StoreView D) : Type 0 where
    pub desktop : d.honest old.disk → new.desktop ≡ old.desktop
    pub kept : new.kept ≡ old.kept
    pub layout : new.layout ≡ old.layout
    pub epoch : new.epoch ≡ old.epoch
    pub events : new.events ≡ old.events
    pub unwritten : IsOnlyRead d old.disk new.disk

  -- Ok: the desktop and the reply are those of the definition
  pub record AreBrought (documents : Documents) (reply : Reply) (old new : StoreView D)
      : Type 0 where
    pub brought : IsBringing (d.honest old.disk) documents old.kept new.kept old.desktop new.desktop
        reply
    -- from now on a crash leaves that desktop
    pub durable : IsDurable d new
    pub usable : new.must_reopen ≡ false
    -- all stand in the other slot, which is in use now
    pub done : reply ≡ Done → IsInNextSlot old new
    -- or none was brought
    pub refusal : (code : ℕ) → reply ≡ No code → AreRefused old new

  -- NoMemory: nothing was written, and the store must be opened again
  pub record IsUnwritten (old new : StoreView D) : Type 0 where
    pub unwritten : IsOnlyRead d old.disk new.disk
    pub closed : new.must_reopen ≡ true
