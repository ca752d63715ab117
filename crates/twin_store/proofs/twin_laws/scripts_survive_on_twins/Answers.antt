use Rattle.twin_store.proofs.Keeping.{all_keep}
use Rattle.twin_store.proofs.twin_laws.scripts_survive_on_twins.Goals as goal

pub returns : goal.returns
returns g c = λ script old new h h' left.
    all_keep g.A.Disk g.B.Disk old.store.desktop _ _ old.store new.store h h' left.kept.any_moment left.kept.at_last
