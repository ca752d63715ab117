use Rattle.desk_core.proofs.StretchLemmas.{copy_goes}
use Rattle.desk_core.proofs.desk.Desk.copy_of.Goals as goal

pub returns-clause-goes : goal.returns-clause-goes
returns-clause-goes c = copy_goes _ c.in_ok-copy.ensures c.requires.order c.requires.within
