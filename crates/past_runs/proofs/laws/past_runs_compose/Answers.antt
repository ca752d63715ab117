use Rattle.past_runs.proofs.Running.{composed, cut}
use Rattle.past_runs.proofs.laws.past_runs_compose.Goals as goal

pub returns-clause-joined : goal.returns-clause-joined
returns-clause-joined g c = composed g.D.Disk

pub returns-clause-cut : goal.returns-clause-cut
returns-clause-cut g c = cut g.D.Disk
