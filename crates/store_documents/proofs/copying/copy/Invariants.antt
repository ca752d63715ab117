use Rattle.std.proofs.Common.{◌<◌, ◌≡◌}
use Rattle.sector_disk.specs.Confined.{IsConfined}
use Rattle.sector_disk.specs.Trail.{now, Nowhere}
use Rattle.store_documents.specs.Copying.{HaveSame}
use Rattle.store_documents.proofs.copying.copy.Given as goal

abbrev pub invariant-loop-n : goal.invariant-loop-n
invariant-loop-n g l = (IsConfined g.D.Disk.size g.D.Disk.honest g.D.Disk.trail Nowhere l.fn.from l.from)
    × (IsConfined g.E.Disk.size g.E.Disk.honest g.E.Disk.trail (λ n. n < l.count) l.fn.to l.to)
    × (g.D.Disk.honest l.fn.from → g.E.Disk.honest l.fn.to
    → HaveSame l.n (now (g.D.Disk.trail l.fn.from)).reads (now (g.E.Disk.trail l.to)).reads)
    × (g.D.Disk.failures l.from ≡ g.D.Disk.failures l.fn.from) × (g.E.Disk.failures l.to ≡ g.E.Disk.failures l.fn.to)
