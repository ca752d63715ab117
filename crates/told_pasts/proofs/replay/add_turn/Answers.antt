use Rattle.std.proofs.Common.{refl}
use Rattle.told_pasts.proofs.Replayed.{turn_told}
use Rattle.told_pasts.proofs.replay.add_turn.Goals as goal

pub returns : goal.returns
returns c = λ start deeds here to within is. turn_told within is refl c.in_ok-push_turn.ensures
