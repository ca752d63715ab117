use Rattle.filled_pastes.proofs.Kept.{stays}
use Rattle.filled_pastes.proofs.laws.words_stay.Goals as goal

pub returns : goal.returns
returns c = stays
