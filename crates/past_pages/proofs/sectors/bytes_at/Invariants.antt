use Rattle.std.proofs.Common.{◌≡◌, ◌*◌, length}
use Rattle.sector_disk.specs.declared.disk.TheConstants.{SECTOR_BYTES}
use Rattle.sector_disk.specs.Stored.{stored}
use Rattle.sector_disk.specs.Trail.{now}
use Rattle.past_pages.specs.Reading.{IsOnlyReadFrom}
use Rattle.past_pages.proofs.sectors.bytes_at.Given as goal

-- nothing is written, and the bytes of the sectors so far have been read
abbrev pub invariant-loop-k : goal.invariant-loop-k
invariant-loop-k g l = record {
  still : IsOnlyReadFrom g.D.Disk l.fn.store l.store;
  calm : g.D.Disk.failures l.store.disk ≡ g.D.Disk.failures l.fn.store.disk;
  long : length l.bytes.items ≡ SECTOR_BYTES * l.k;
  bytes : g.D.Disk.honest l.fn.store.disk
      → l.bytes.items ≡ stored (now (g.D.Disk.trail l.fn.store.disk)).reads l.at (SECTOR_BYTES * l.k);
}
