use Rattle.desk_input.proofs.Kept.{others_stay}
use Rattle.desk_input.proofs.laws.other_texts_stay.Goals as goal

pub returns : goal.returns
returns c = others_stay
