use Rattle.std.proofs.Common.{◌≡◌, ◌<◌, ◌≤◌, ℕ}
use Rattle.sector_disk.specs.Trail.{now}
use Rattle.past_pages.specs.Sectors.{IsBlank}
use Rattle.past_pages.specs.Reading.{IsOnlyReadFrom}
use Rattle.past_pages.proofs.sectors.is_blank.Given as goal

-- nothing is written, and the sectors so far have zeros
abbrev pub invariant-loop-n : goal.invariant-loop-n
invariant-loop-n g l = record {
  still : IsOnlyReadFrom g.D.Disk l.fn.store l.store;
  calm : g.D.Disk.failures l.store.disk ≡ g.D.Disk.failures l.fn.store.disk;
  low : l.from ≤ l.n;
  blank : g.D.Disk.honest l.fn.store.disk → (n : ℕ) → l.from ≤ n → n < l.n
      → IsBlank ((now (g.D.Disk.trail l.fn.store.disk)).reads n);
}
