use Rattle.std.proofs.Common.{refl}
use Rattle.all_moments.proofs.Backward.{front_former, front_now}
use Rattle.all_moments.proofs.all.AllMoments.front.Goals as goal

pub returns-in-None-clause-is : goal.returns-in-None-clause-is
returns-in-None-clause-is g c = front_now g.D.Disk c.args._store.now c.args.self.now _ c.in-None.is refl refl

pub returns-in-Some-clause-is : goal.returns-in-Some-clause-is
returns-in-Some-clause-is g c = front_former g.D.Disk c.args._store.now c.args.self.now c.in-Some.part c.in-Some.is
