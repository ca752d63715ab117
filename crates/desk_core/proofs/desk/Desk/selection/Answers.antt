use Rattle.desk_core.proofs.StretchLemmas.{selection_some, selection_stands, selection_there}
use Rattle.desk_core.proofs.desk.Desk.selection.Goals as goal

pub returns-clause-some : goal.returns-clause-some
returns-clause-some c = selection_some c.requires c.newest.ensures

pub returns-clause-stands : goal.returns-clause-stands
returns-clause-stands c = selection_stands c.requires c.newest.ensures

pub returns-clause-there : goal.returns-clause-there
returns-clause-there c = selection_there c.requires c.newest.ensures
