use Rattle.past_runs.proofs.Running.{nothing_forgotten}
use Rattle.past_runs.proofs.laws.past_runs_keep_all.Goals as goal

pub returns : goal.returns
returns g c = nothing_forgotten g.D.Disk
