use Rattle.store_runs.proofs.Acknowledged.{keeps_acknowledged}
use Rattle.store_runs.proofs.laws.runs_keep_acknowledged.Goals as goal

pub returns : goal.returns
returns g c = keeps_acknowledged g.D.Disk
