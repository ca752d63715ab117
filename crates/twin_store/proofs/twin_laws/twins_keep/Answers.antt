use Rattle.twin_store.proofs.Keeping.{all_keep}
use Rattle.twin_store.proofs.twin_laws.twins_keep.Goals as goal

pub returns : goal.returns
returns g c = all_keep g.A.Disk g.B.Disk
