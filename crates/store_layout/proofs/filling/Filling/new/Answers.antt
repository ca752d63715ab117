use Rattle.std.proofs.Common.{refl}
use Rattle.store_layout.proofs.Filled.{none_yet}
use Rattle.store_layout.proofs.filling.Filling.new.Goals as goal

pub returns-clause-taken : goal.returns-clause-taken
returns-clause-taken c = λ content room. none_yet content _ _ _ _ refl refl c.blank.ensures
