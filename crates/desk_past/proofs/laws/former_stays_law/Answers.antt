use Rattle.desk_past.proofs.Former.{former_stays}
use Rattle.desk_past.proofs.laws.former_stays_law.Goals as goal

pub returns : goal.returns
returns g c = former_stays g.D.Disk
