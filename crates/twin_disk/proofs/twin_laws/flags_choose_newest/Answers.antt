use Rattle.twin_disk.proofs.Chosen.{all_choose}
use Rattle.twin_disk.proofs.twin_laws.flags_choose_newest.Goals as goal

pub returns : goal.returns
returns g c = all_choose g.A.Disk g.B.Disk
