use Rattle.desk_input.proofs.Front.{fronts_stay}
use Rattle.desk_input.proofs.laws.texts_keep_their_front.Goals as goal

pub returns : goal.returns
returns c = fronts_stay
