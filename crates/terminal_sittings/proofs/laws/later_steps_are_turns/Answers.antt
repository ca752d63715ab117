use Rattle.terminal_sittings.proofs.PressLaws.{later_is_turned}
use Rattle.terminal_sittings.proofs.laws.later_steps_are_turns.Goals as goal

pub returns : goal.returns
returns g c = later_is_turned g.D.Disk
