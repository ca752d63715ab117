use Rattle.std.proofs.Common.{◌≡◌, false}
use Rattle.desk_journal.specs.View.{IsDurable}
use Rattle.page_disks.specs.contracts.disk.RecordedDiskDisk.TheImpl.{ghosts}
use Rattle.desk_page.specs.Turns.{AreTravelled}
use Rattle.desk_page.proofs.scene.travel_on.Given as goal

abbrev pub invariant-loop-count : goal.invariant-loop-count
invariant-loop-count l = AreTravelled ghosts l._count l.fn.sitting l.sitting l.fn.store l.store
    × IsDurable ghosts l.store × (l.store.must_reopen ≡ false)
