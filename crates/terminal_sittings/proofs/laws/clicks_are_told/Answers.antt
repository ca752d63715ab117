use Rattle.terminal_sittings.proofs.Told.{clicks_told}
use Rattle.terminal_sittings.proofs.laws.clicks_are_told.Goals as goal

pub returns : goal.returns
returns c = clicks_told
