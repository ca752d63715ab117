use Rattle.std.proofs.Common.{◌≡◌, ◌*◌, length}
use Rattle.sector_disk.specs.declared.disk.TheConstants.{SECTOR_BYTES}
use Rattle.sector_disk.specs.Confined.{IsConfined}
use Rattle.sector_disk.specs.Trail.{Nowhere, now}
use Rattle.store_layout.specs.Meaning.{area_bytes}
use Rattle.store_slots.proofs.live.gathering.read_area.Given as goal

-- nothing is written, and the sectors before sector k have been read
abbrev pub invariant-loop-k : goal.invariant-loop-k
invariant-loop-k g l = record {
  kept : IsConfined g.D.Disk.size g.D.Disk.honest g.D.Disk.trail Nowhere l.fn.disk l.disk;
  calm : g.D.Disk.failures l.disk ≡ g.D.Disk.failures l.fn.disk;
  long : length l.bytes.items ≡ SECTOR_BYTES * l.k;
  read : g.D.Disk.honest l.fn.disk
      → l.bytes.items ≡ area_bytes (now (g.D.Disk.trail l.fn.disk)).reads l.area l.k;
}
