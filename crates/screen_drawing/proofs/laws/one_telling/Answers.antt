use Rattle.screen_drawing.proofs.Telling.{one}
use Rattle.screen_drawing.proofs.laws.one_telling.Goals as goal

pub returns : goal.returns
returns c = one
