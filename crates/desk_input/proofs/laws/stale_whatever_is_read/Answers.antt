use Rattle.desk_input.proofs.Kept.{stale_seen}
use Rattle.desk_input.proofs.laws.stale_whatever_is_read.Goals as goal

pub returns : goal.returns
returns c = stale_seen
