use Rattle.oberon_main.proofs.ByLines.{scripts_kept}
use Rattle.oberon_main.proofs.laws.scripts_survive.Goals as goal

pub returns : goal.returns
returns g c = scripts_kept g.D.Disk
