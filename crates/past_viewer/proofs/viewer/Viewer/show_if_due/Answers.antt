use Rattle.std.proofs.Common.{None}
use Rattle.past_viewer.specs.Viewing.TakesScenes.{none}
use Rattle.past_viewer.proofs.viewer.Viewer.show_if_due.Goals as goal

pub returns-else-self-clause-scenes : goal.returns-else-self-clause-scenes
returns-else-self-clause-scenes g c = λ is. (None, none)
