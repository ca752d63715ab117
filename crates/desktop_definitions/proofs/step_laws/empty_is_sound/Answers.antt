use Rattle.desktop_definitions.proofs.StepLaws.{empty_sound}
use Rattle.desktop_definitions.proofs.step_laws.empty_is_sound.Goals as goal

pub returns : goal.returns
returns c = empty_sound
