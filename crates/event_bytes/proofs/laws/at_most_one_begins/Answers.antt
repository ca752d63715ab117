use Rattle.event_bytes.proofs.EventParts.{one_begins}
use Rattle.event_bytes.proofs.laws.at_most_one_begins.Goals as goal

pub returns : goal.returns
returns c = one_begins
