use Rattle.desk_input.proofs.Front.{from_seen}
use Rattle.desk_input.proofs.laws.position_whatever_is_read.Goals as goal

pub returns : goal.returns
returns c = from_seen
