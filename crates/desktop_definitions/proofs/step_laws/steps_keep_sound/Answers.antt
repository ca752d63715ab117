use Rattle.desktop_definitions.proofs.StepSound.{steps_keep_sound}
use Rattle.desktop_definitions.proofs.step_laws.steps_keep_sound.Goals as goal

pub returns : goal.returns
returns c = steps_keep_sound
