use Rattle.std.proofs.Common.{◌≡◌, ◌+◌, ◌<◌, ◌≤◌, ℕ}
use Rattle.sector_disk.specs.Trail.{now}
use Rattle.past_pages.specs.Reading.{IsOnlyReadFrom}
use Rattle.past_pages.proofs.sectors.is_copied.Given as goal

-- nothing is written, and the sectors so far are alike
abbrev pub invariant-loop-k : goal.invariant-loop-k
invariant-loop-k g l = record {
  still : IsOnlyReadFrom g.D.Disk l.fn.store l.store;
  calm : g.D.Disk.failures l.store.disk ≡ g.D.Disk.failures l.fn.store.disk;
  low : l.from ≤ l.k;
  same : g.D.Disk.honest l.fn.store.disk → (n : ℕ) → l.from ≤ n → n < l.k
      → (now (g.D.Disk.trail l.fn.store.disk)).reads (l.base + n) ≡ (now (g.D.Disk.trail l.fn.store.disk)).reads n;
}
