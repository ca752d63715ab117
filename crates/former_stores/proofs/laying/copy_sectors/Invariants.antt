use Rattle.std.proofs.Common.{◌≡◌, ℕ}
use Rattle.sector_disk.specs.Trail.{now}
use Rattle.store_layout.specs.Filling.{InRange}
use Rattle.store_slots.specs.Device.{IsSameDevice}
use Rattle.past_pages.specs.Reading.{IsOnlyReadFrom}
use Rattle.former_stores.specs.Laying.{IsCopiedTo}
use Rattle.former_stores.proofs.laying.copy_sectors.Given as goal

-- nothing is written to the store, the sectors so far have been copied, and those behind them read as before
abbrev pub invariant-loop-k : goal.invariant-loop-k
invariant-loop-k g l = record {
  still : IsOnlyReadFrom g.D.Disk l.fn.store l.store;
  calm : g.D.Disk.failures l.store.disk ≡ g.D.Disk.failures l.fn.store.disk;
  device : IsSameDevice g.E.Disk l.fn.disk l.disk;
  copied : g.D.Disk.honest l.fn.store.disk → g.E.Disk.honest l.fn.disk
      → IsCopiedTo l.from l.to l.k (now (g.D.Disk.trail l.fn.store.disk)).reads (now (g.E.Disk.trail l.disk)).reads;
  others : g.E.Disk.honest l.fn.disk → (n : ℕ) → ¬ InRange l.to l.k n
      → (now (g.E.Disk.trail l.disk)).reads n ≡ (now (g.E.Disk.trail l.fn.disk)).reads n;
}
