use Rattle.filled_pastes.proofs.Lossless.{has_ends, is_short}
use Rattle.filled_pastes.proofs.laws.nothing_is_lost.Goals as goal

pub returns-clause-nothing : goal.returns-clause-nothing
returns-clause-nothing c = has_ends

pub returns-clause-short : goal.returns-clause-short
returns-clause-short c = is_short
