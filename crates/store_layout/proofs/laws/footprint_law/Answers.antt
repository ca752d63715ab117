use Rattle.store_layout.proofs.Agreeing.{agreement}
use Rattle.store_layout.proofs.laws.footprint_law.Goals as goal

pub returns : goal.returns
returns c = agreement
