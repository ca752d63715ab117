use Rattle.oberon_main.proofs.Moments.{scripts_cut}
use Rattle.oberon_main.proofs.laws.scripts_are_cut_off.Goals as goal

pub returns : goal.returns
returns g c = scripts_cut g.D.Disk
