use Rattle.std.proofs.Common.{◌≡◌, ◌≤◌}
use Rattle.sector_disk.specs.Confined.{IsConfined}
use Rattle.sector_disk.specs.Trail.{now, Nowhere}
use Rattle.cli_copies.specs.Sectors.{DiffersBetween, HaveSameFrom}
use Rattle.cli_copies.proofs.sectors.copy_changed.Given as goal

-- the sectors so far hold the same, and were written where they differed
abbrev pub invariant-loop-n : goal.invariant-loop-n
invariant-loop-n g l = record {
  low : l.first ≤ l.n;
  read : IsConfined g.D.Disk.size g.D.Disk.honest g.D.Disk.trail Nowhere l.fn.from l.from;
  sparse : IsConfined g.E.Disk.size g.E.Disk.honest g.E.Disk.trail (DiffersBetween (g.D.Disk.honest l.fn.from) l.first l.n
      (now (g.D.Disk.trail l.fn.from)).reads (now (g.E.Disk.trail l.fn.to)).reads) l.fn.to l.to;
  same : g.D.Disk.honest l.fn.from → g.E.Disk.honest l.fn.to → HaveSameFrom l.first l.n
      (now (g.D.Disk.trail l.fn.from)).reads (now (g.E.Disk.trail l.to)).reads;
  calm : g.D.Disk.failures l.from ≡ g.D.Disk.failures l.fn.from;
  beside : g.E.Disk.failures l.to ≡ g.E.Disk.failures l.fn.to;
}
