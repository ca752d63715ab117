use Rattle.desk_past.proofs.Former.{span_stays}
use Rattle.desk_past.proofs.laws.span_stays_law.Goals as goal

pub returns : goal.returns
returns g c = span_stays g.D.Disk
