use Rattle.past_runs.proofs.Former.{former_over}
use Rattle.past_runs.proofs.laws.former_stays.Goals as goal

pub returns : goal.returns
returns g c = former_over g.D.Disk
