use Rattle.desk_past.proofs.Moments.{the_present}
use Rattle.desk_past.proofs.laws.present_law.Goals as goal

pub returns : goal.returns
returns c = λ size start deeds desktop content r. the_present r
