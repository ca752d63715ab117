use Rattle.past_looks.proofs.Carrying.{looker_same}
use Rattle.past_looks.proofs.looker.Looker.change.Goals as goal

pub returns-in-Ring-clause-looker : goal.returns-in-Ring-clause-looker
returns-in-Ring-clause-looker g c = λ is. looker_same g.D.Disk c.refuse.ensures.same is

pub returns-in-Seek-clause-looker : goal.returns-in-Seek-clause-looker
returns-in-Seek-clause-looker g c = λ is. looker_same g.D.Disk c.seek.ensures.same is
