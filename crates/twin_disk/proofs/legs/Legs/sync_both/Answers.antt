use Rattle.std.proofs.Common.{refl}
use Rattle.sector_disk.specs.Trail.{now, Nowhere}
use Rattle.twin_disk.specs.Legs.{HasSettled}
use Rattle.twin_disk.proofs.Joining.{joined_calls, joined_each, has_settled, settled_beside}
use Rattle.twin_disk.proofs.legs.Legs.sync_both.Goals as goal

pub returns : goal.returns
returns g c =
    let at = c.args.beside.now.sector in
    let old = c.args.self.now in
    let first = c.sync-first in
    let second = c.sync-second in
    record {
      calls = joined_calls g.A.Disk g.B.Disk at Nowhere old _ c.requires.both refl first.ensures.kept
          second.ensures.kept first.result second.result c.join.result c.join.new.self first.ensures.cause
          second.ensures.cause c.join.ensures;
      done = joined_each g.A.Disk g.B.Disk at old _ (HasSettled at) (HasSettled at) (settled_beside at) (settled_beside at)
          first.ensures.kept.still second.ensures.kept.still first.result second.result c.join.result c.join.new.self
          (has_settled _ at (now (g.A.Disk.trail old.first)) (now (g.A.Disk.trail first.new.self)) first.result
          first.ensures.settled)
          (has_settled _ at (now (g.B.Disk.trail old.second)) (now (g.B.Disk.trail second.new.self)) second.result
          second.ensures.settled)
          c.join.ensures;
    }
