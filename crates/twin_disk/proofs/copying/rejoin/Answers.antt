use Rattle.twin_disk.proofs.Copies.{rejoined}
use Rattle.twin_disk.proofs.copying.rejoin.Goals as goal

pub returns-clause-paired : goal.returns-clause-paired
returns-clause-paired g c = rejoined g.A.Disk g.B.Disk c.args.sectors c.put_flag.result c.args.from.now c.put_flag.new.leg
    c.args._copy.now c.in_pair_as-in_pair.result.alone c.in_pair_as-in_pair.ensures c.requires.copy c.put_flag.ensures.kept
    c.put_flag.ensures.shown c.put_flag.ensures.settled
