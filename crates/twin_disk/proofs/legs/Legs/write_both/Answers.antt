use Rattle.std.proofs.Common.{refl}
use Rattle.sector_disk.specs.Trail.{now}
use Rattle.twin_disk.specs.Legs.{HasWritten}
use Rattle.twin_disk.specs.Marks.{OrMark}
use Rattle.twin_disk.proofs.Joining.{joined_calls, joined_each, written_beside}
use Rattle.twin_disk.proofs.Opened.{joined_opened, wrote_cause, wrote_kept, wrote_opened, wrote_there}
use Rattle.twin_disk.proofs.legs.Legs.write_both.Goals as goal

pub returns-clause-did : goal.returns-clause-did
returns-clause-did g c =
    let at = c.args.beside.now.sector in
    let n = c.args.n in
    let bytes = c.args.bytes.now in
    let old = c.args.self.now in
    let one = c.open_leg-one in
    let other = c.open_leg-other in
    let first = c.write_opened-first in
    let second = c.write_opened-second in
    let m = now (g.A.Disk.trail old.first) in
    let m' = now (g.B.Disk.trail old.second) in
    let kept = wrote_kept g.A.Disk at n c.requires.within bytes _ _ old.first one.new.leg first.new.leg one.ensures.kept
    one.ensures.marks one.result first.result first.ensures in
    let kept' = wrote_kept g.B.Disk at n c.requires.within bytes _ _ old.second other.new.leg second.new.leg other.ensures.kept
    other.ensures.marks other.result second.result second.ensures in
    record {
      calls = joined_calls g.A.Disk g.B.Disk at (OrMark at n) old _ c.requires.both refl kept kept' first.result second.result
          c.join.result c.join.new.self
          (wrote_cause g.A.Disk at n c.requires.within bytes _ _ old.first one.new.leg first.new.leg one.ensures.kept
          one.ensures.marks one.result first.result first.ensures one.ensures.cause)
          (wrote_cause g.B.Disk at n c.requires.within bytes _ _ old.second other.new.leg second.new.leg other.ensures.kept
          other.ensures.marks other.result second.result second.ensures other.ensures.cause) c.join.ensures;
      done = joined_each g.A.Disk g.B.Disk at old _ (HasWritten at n bytes m) (HasWritten at n bytes m')
          (written_beside at n bytes m) (written_beside at n bytes m') kept.still kept'.still first.result second.result
          c.join.result c.join.new.self
          (wrote_there g.A.Disk at n c.requires.within bytes _ _ old.first one.new.leg first.new.leg one.ensures.kept
          one.ensures.marks one.result first.result first.ensures)
          (wrote_there g.B.Disk at n c.requires.within bytes _ _ old.second other.new.leg second.new.leg other.ensures.kept
          other.ensures.marks other.result second.result second.ensures) c.join.ensures;
    }

pub returns-clause-marks : goal.returns-clause-marks
returns-clause-marks g c =
    let at = c.args.beside.now.sector in
    let n = c.args.n in
    let bytes = c.args.bytes.now in
    let old = c.args.self.now in
    let one = c.open_leg-one in
    let other = c.open_leg-other in
    let first = c.write_opened-first in
    let second = c.write_opened-second in
    joined_opened g.A.Disk g.B.Disk at c.args.closed.now _ old _
    (wrote_opened g.A.Disk at n c.requires.within bytes _ _ old.first one.new.leg first.new.leg one.ensures.kept
    one.ensures.marks one.result first.result first.ensures one.ensures.gone)
    (wrote_opened g.B.Disk at n c.requires.within bytes _ _ old.second other.new.leg second.new.leg other.ensures.kept
    other.ensures.marks other.result second.result second.ensures other.ensures.gone)
    first.result second.result c.join.result c.join.new.self c.join.ensures
