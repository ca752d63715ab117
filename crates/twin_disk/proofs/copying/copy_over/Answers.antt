use Rattle.twin_disk.proofs.Copies.{settled_copy}
use Rattle.twin_disk.proofs.copying.copy_over.Goals as goal

pub rejoin-requires-clause-copy : goal.rejoin-requires-clause-copy
rejoin-requires-clause-copy g c = settled_copy g.A.Disk g.B.Disk c.args.sectors c.copy_disk.new.from c.copy_disk.new.to
    c.say.new.leg c.in_pair_as.result.alone c.in_pair_as.ensures c.in_ok-copy_disk.ensures.copied.same c.say.ensures.kept
    c.in_ok-say.ensures.shown c.in_ok-say.ensures.settled
