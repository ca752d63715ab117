use Rattle.std.proofs.Common.{◌≡◌, ◌-◌, ◌≤◌}
use Rattle.sector_disk.specs.Trail.{now}
use Rattle.store_layout.specs.declared.layout.TheConstants.{STORE_SECTORS}
use Rattle.store_slots.specs.Device.{IsSameDevice}
use Rattle.past_pages.specs.Sectors.{HasCopies}
use Rattle.desk_past.specs.Beginning.{IsAside, SparesOthers}
use Rattle.desk_past.proofs.beginning.copy_rest.Given as goal

-- only a part of the start was written, which has copies, and the store shows what it showed
abbrev pub invariant-loop-done : goal.invariant-loop-done
invariant-loop-done g l = record {
  some : 1 ≤ l.done;
  most : l.done ≤ STORE_SECTORS;
  device : IsSameDevice g.D.Disk l.fn.store.disk l.store.disk;
  calm : g.D.Disk.failures l.store.disk ≡ g.D.Disk.failures l.fn.store.disk;
  others : SparesOthers g.D.Disk l.base l.fn.store l.store;
  aside : IsAside g.D.Disk l.fn.store l.store;
  copied : g.D.Disk.honest l.fn.store.disk → HasCopies l.base 1 (l.done - 1)
      (now (g.D.Disk.trail l.fn.store.disk)).reads
      (now (g.D.Disk.trail l.store.disk)).reads;
}

abbrev pub decreases-loop-done : goal.decreases-loop-done
decreases-loop-done g l = STORE_SECTORS - l.done
