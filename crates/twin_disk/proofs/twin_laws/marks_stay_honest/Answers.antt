use Rattle.twin_disk.proofs.Marked.{all_honest}
use Rattle.twin_disk.proofs.twin_laws.marks_stay_honest.Goals as goal

pub returns : goal.returns
returns g c = all_honest g.A.Disk g.B.Disk
