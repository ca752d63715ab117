use Rattle.twin_disk.proofs.Composing.{all_compose}
use Rattle.twin_disk.proofs.twin_laws.calls_compose.Goals as goal

pub returns : goal.returns
returns g c = all_compose g.A.Disk g.B.Disk
