use Rattle.store_runs.proofs.Surviving.{survives}
use Rattle.store_runs.proofs.laws.runs_survive.Goals as goal

pub returns : goal.returns
returns g c = survives g.D.Disk
