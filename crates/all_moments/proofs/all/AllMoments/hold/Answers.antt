use Rattle.std.proofs.Common.{Some, refl}
use Rattle.all_moments.specs.declared.part.Edge.TheVariants.{Unknown}
use Rattle.all_moments.proofs.Backward.{all_held}
use Rattle.all_moments.proofs.all.AllMoments.hold.Goals as goal

pub returns : goal.returns
returns g c = all_held g.D.Disk c.args._store.now c.args.self.now
    (record c.args.self.now { former = Some c.args.part; fronts = c.push.new.self; edge = Unknown }) c.args.part
    c.args.behind refl refl c.in_ok-push.ensures.items refl
