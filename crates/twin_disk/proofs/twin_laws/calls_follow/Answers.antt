use Rattle.twin_disk.proofs.Chosen.{all_follow}
use Rattle.twin_disk.proofs.twin_laws.calls_follow.Goals as goal

pub returns : goal.returns
returns g c = all_follow g.A.Disk g.B.Disk
