use Rattle.store_layout.proofs.OneStanding.{one_showing}
use Rattle.store_layout.proofs.laws.showing_law.Goals as goal

pub returns : goal.returns
returns c = one_showing c.at_most_one_begins.ensures c.one_desktop.ensures
