use Rattle.terminal_sittings.proofs.PressLaws.{presses_steps}
use Rattle.terminal_sittings.proofs.laws.presses_are_steps.Goals as goal

pub returns : goal.returns
returns c = presses_steps
