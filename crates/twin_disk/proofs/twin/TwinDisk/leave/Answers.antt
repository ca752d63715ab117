use Rattle.std.proofs.Common.{rules}
use Rattle.twin_disk.proofs.Marked.{whole_held}
use Rattle.twin_disk.proofs.twin.TwinDisk.leave.Goals as goal

pub mark-requires : goal.mark-requires
mark-requires g c = whole_held g.A.Disk g.B.Disk c.args.self (c.is_whole.ensures.0 (search rules)) c.requires
