use Rattle.std.proofs.Common.{◌≡◌, ◌-◌, ◌≤◌}
use Rattle.sector_disk.specs.Trail.{now}
use Rattle.store_slots.specs.Device.{IsSameDevice}
use Rattle.past_pages.specs.Sectors.{AreBlank}
use Rattle.desk_past.specs.Beginning.{IsAside, SparesAllBut}
use Rattle.desk_past.proofs.forgetting.blank.Given as goal

-- only these sectors were written, the first of them have zeros, and the store shows what it showed
abbrev pub invariant-loop-done : goal.invariant-loop-done
invariant-loop-done g l = record {
  most : l.done ≤ l.count;
  device : IsSameDevice g.D.Disk l.fn.store.disk l.store.disk;
  calm : g.D.Disk.failures l.store.disk ≡ g.D.Disk.failures l.fn.store.disk;
  only : SparesAllBut g.D.Disk l.from l.count l.fn.store l.store;
  aside : IsAside g.D.Disk l.fn.store l.store;
  blank : g.D.Disk.honest l.fn.store.disk → AreBlank l.from l.done (now (g.D.Disk.trail l.store.disk)).reads;
}

abbrev pub decreases-loop-done : goal.decreases-loop-done
decreases-loop-done g l = l.count - l.done
