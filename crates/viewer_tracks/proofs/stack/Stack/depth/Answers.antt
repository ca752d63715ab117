use Rattle.std.proofs.Common.{ap, sym, ◌∙◌, length}
use Rattle.viewer_tracks.proofs.LevelLemmas.{length-stack_over}
use Rattle.viewer_tracks.proofs.stack.Stack.depth.Goals as goal

pub returns-clause-depth : goal.returns-clause-depth
returns-clause-depth c = sym (length-stack_over c.self.inside.tracks c.self.inside.covered) ∙ ap length c.self.view_is
