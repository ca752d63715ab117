use Rattle.store_layout.proofs.OneFinding.{finding}
use Rattle.store_layout.proofs.laws.finding_law.Goals as goal

pub returns : goal.returns
returns c = finding c.at_most_one_begins.ensures c.one_desktop.ensures
