use Rattle.std.proofs.Common.{◌+◌, arith}
use Rattle.sector_disk.specs.Trail.{Only}
use Rattle.twin_disk.proofs.Marked.{same_marked}
use Rattle.twin_disk.proofs.closing.mark_both.Goals as goal

pub returns-clause-marks : goal.returns-clause-marks
returns-clause-marks g c = same_marked g.A.Disk g.B.Disk c.args.at (Only (c.args.at + 1))
    (λ k small at. omega (arith, small, at)) c.args.first.now c.put_marks.new.first c.args.second.now
    c.put_marks.new.second c.requires.same c.put_marks.ensures.first c.put_marks.ensures.second
