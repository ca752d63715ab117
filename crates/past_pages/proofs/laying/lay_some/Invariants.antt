use Rattle.std.proofs.Common.{◌≡◌, ◌-◌, ◌≤◌, ℕ}
use Rattle.sector_disk.specs.Trail.{now}
use Rattle.store_slots.specs.Device.{IsSameDevice}
use Rattle.past_pages.specs.Laying.{HasLaid, IsLaying}
use Rattle.past_pages.specs.Reading.{IsOnlyReadFrom}
use Rattle.past_pages.proofs.laying.lay_some.Given as goal

-- nothing is written to the store, and the sectors so far have been laid
abbrev pub invariant-loop-n : goal.invariant-loop-n
invariant-loop-n g l = record {
  still : IsOnlyReadFrom g.D.Disk l.fn.store l.store;
  calm : g.D.Disk.failures l.store.disk ≡ g.D.Disk.failures l.fn.store.disk;
  device : IsSameDevice g.E.Disk l.fn.disk l.disk;
  low : l.from ≤ l.n;
  laid : g.D.Disk.honest l.fn.store.disk → g.E.Disk.honest l.fn.disk
      → IsLaying (now (g.D.Disk.trail l.fn.store.disk)).reads l.base (now (g.E.Disk.trail l.fn.disk)).reads
      → HasLaid (now (g.D.Disk.trail l.fn.store.disk)).reads l.base l.from (l.n - l.from)
      (now (g.E.Disk.trail l.fn.disk)).reads (now (g.E.Disk.trail l.disk)).reads;
}
