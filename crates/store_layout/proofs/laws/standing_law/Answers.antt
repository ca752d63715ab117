use Rattle.store_layout.proofs.OneStanding.{one_standing}
use Rattle.store_layout.proofs.laws.standing_law.Goals as goal

pub returns : goal.returns
returns c = one_standing c.at_most_one_begins.ensures c.one_desktop.ensures
