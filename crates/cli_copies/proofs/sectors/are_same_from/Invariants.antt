use Rattle.std.proofs.Common.{◌≡◌, ◌≤◌}
use Rattle.sector_disk.specs.Confined.{IsConfined}
use Rattle.sector_disk.specs.Trail.{now, Nowhere}
use Rattle.cli_copies.specs.Sectors.{HaveSameFrom}
use Rattle.cli_copies.proofs.sectors.are_same_from.Given as goal

-- the sectors so far hold the same, and nothing is written
abbrev pub invariant-loop-n : goal.invariant-loop-n
invariant-loop-n g l = (l.begin ≤ l.n)
    × (IsConfined g.D.Disk.size g.D.Disk.honest g.D.Disk.trail Nowhere l.fn.first l.first)
    × (IsConfined g.E.Disk.size g.E.Disk.honest g.E.Disk.trail Nowhere l.fn.second l.second)
    × (g.D.Disk.honest l.fn.first → g.E.Disk.honest l.fn.second
    → HaveSameFrom l.begin l.n (now (g.D.Disk.trail l.fn.first)).reads (now (g.E.Disk.trail l.fn.second)).reads)
    × (g.D.Disk.failures l.first ≡ g.D.Disk.failures l.fn.first) × (g.E.Disk.failures l.second ≡ g.E.Disk.failures l.fn.second)
