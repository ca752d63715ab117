use Rattle.std.proofs.Common.{refl}
use Rattle.desk_sitting.specs.Travels.{none}
use Rattle.desk_sitting.proofs.Travelling.{stays_there}
use Rattle.desk_sitting.proofs.travels.travel.Goals as goal

pub returns-in-None : goal.returns-in-None
returns-in-None g c = stays_there g.D.Disk tt c.args.store.now c.requires (λ wrong. absurd (cc (c.in-None.is, wrong)))
    (none c.in-None.is refl refl)
