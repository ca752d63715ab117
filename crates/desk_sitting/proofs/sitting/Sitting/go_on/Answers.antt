use Rattle.desk_sitting.proofs.Carrying.{none_left}
use Rattle.desk_sitting.proofs.sitting.Sitting.go_on.Goals as goal

pub returns-in-None-clause-does : goal.returns-in-None-clause-does
returns-in-None-clause-does g c = rw c.in-None.is (none_left g.D.Disk c.args.self.now c.args.store.now c.requires)
