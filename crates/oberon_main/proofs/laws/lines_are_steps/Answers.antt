use Rattle.oberon_main.proofs.Surviving.{lines_steps}
use Rattle.oberon_main.proofs.laws.lines_are_steps.Goals as goal

pub returns : goal.returns
returns c = lines_steps
