use Rattle.std.proofs.Common.{refl}
use Rattle.all_moments.proofs.Backward.{known_left}
use Rattle.all_moments.proofs.all.AllMoments.leave.Goals as goal

pub returns-clause-known : goal.returns-clause-known
returns-clause-known g c = known_left g.D.Disk c.args._store.now c.args.self.now
    (record c.args.self.now { fronts = c.pop.new.self }) c.pop-front.new.self.items c.pop-front.result c.pop.result refl
    c.pop-front.ensures.items c.pop.ensures.items
