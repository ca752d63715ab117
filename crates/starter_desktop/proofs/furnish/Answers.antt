use Rattle.std.proofs.Common.{rules}
use Rattle.desktop_definitions.specs.Step.{step}
use Rattle.starter_desktop.proofs.furnish.Goals as goal

pub returns-clause-desktop : goal.returns-clause-desktop
unfolding step
returns-clause-desktop g c = search rules
