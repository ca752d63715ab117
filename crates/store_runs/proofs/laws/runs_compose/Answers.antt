use Rattle.store_runs.proofs.Chaining.{composed}
use Rattle.store_runs.proofs.laws.runs_compose.Goals as goal

pub returns : goal.returns
returns g c = composed g.D.Disk
