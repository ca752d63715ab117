use Rattle.oberon_main.proofs.Told.{scripts_told}
use Rattle.oberon_main.proofs.laws.scripts_are_answered.Goals as goal

pub returns : goal.returns
returns g c = scripts_told g.D.Disk
