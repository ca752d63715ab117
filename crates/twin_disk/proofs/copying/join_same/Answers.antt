use Rattle.std.proofs.Common.{arith}
use Rattle.sector_disk.specs.Trail.{Only}
use Rattle.twin_disk.proofs.Marked.{same_marked}
use Rattle.twin_disk.proofs.copying.join_same.Goals as goal

pub returns-clause-marks : goal.returns-clause-marks
returns-clause-marks g c = same_marked g.A.Disk g.B.Disk c.args.sectors (Only c.args.sectors)
    (λ k small at. omega (arith, small, at)) c.args.from.now c.open_both.new.from c.args.to.now
    c.open_both.new.to c.requires.same c.open_both.ensures.from c.open_both.ensures.to
