use Rattle.desk_core.proofs.StretchLemmas.{caret_stands}
use Rattle.desk_core.proofs.desk.Desk.caret_place.Goals as goal

pub returns-clause-stands : goal.returns-clause-stands
returns-clause-stands c = caret_stands c.requires
