use Rattle.twin_disk.proofs.Marked.{unwritten_marked, unwritten_plain}
use Rattle.twin_disk.proofs.twin.TwinDisk.close_unwritten.Goals as goal

pub returns-then-is_whole : goal.returns-then-is_whole
returns-then-is_whole g c =
    unwritten_marked g.A.Disk g.B.Disk c.args.self c.mark.result.0 c.mark.result.1 c.mark.ensures

pub returns : goal.returns
returns g c = unwritten_plain g.A.Disk g.B.Disk c.args.self c.into_legs.result c.into_legs.ensures
