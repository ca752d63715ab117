use Rattle.twin_disk.specs.Survival.{first_leg, second_leg}
use Rattle.twin_disk.proofs.Marked.{renamed_marked}
use Rattle.twin_disk.proofs.pairing.paired.Goals as goal

pub returns-clause-marks : goal.returns-clause-marks
returns-clause-marks g c = λ same. renamed_marked g.A.Disk g.B.Disk c.args.sectors c.args.first c.mirror.new.from
    (first_leg c.new.result) c.args.second c.mirror.new.to (second_leg c.new.result) c.new.ensures.legs
    (c.mirror.ensures.marks same)
