use Rattle.past_runs.proofs.Staying.{moment_stays, moments_stay}
use Rattle.past_runs.proofs.laws.moments_stay.Goals as goal

pub returns-clause-one : goal.returns-clause-one
returns-clause-one c = moment_stays

pub returns-clause-all : goal.returns-clause-all
returns-clause-all c = moments_stay
