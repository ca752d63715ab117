use Rattle.screen_drawing.proofs.Telling.{again}
use Rattle.screen_drawing.proofs.laws.spelled_is_told.Goals as goal

pub returns : goal.returns
returns c = again
