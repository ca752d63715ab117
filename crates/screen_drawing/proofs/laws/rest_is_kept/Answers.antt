use Rattle.screen_drawing.proofs.Leading.{rest_kept}
use Rattle.screen_drawing.proofs.laws.rest_is_kept.Goals as goal

pub returns : goal.returns
returns c = rest_kept
