use Rattle.std.proofs.Common.{refl}
use Rattle.past_looks.specs.Looking.IsSeenAt.{plain}
use Rattle.past_looks.proofs.Carrying.{looker_moved, looker_same}
use Rattle.past_looks.proofs.looker.Looker.come.Goals as goal

pub returns-in-None-clause-looker : goal.returns-in-None-clause-looker
returns-in-None-clause-looker g c = λ is. looker_same g.D.Disk c.refuse.ensures.same
    (looker_moved g.D.Disk c.look.ensures.still c.requires (c.shows_what_crashes_leave.ensures.quiet c.requires)
    c.args.self.now _ c.in_ok-look.ensures.are refl refl refl is)

pub returns-in-Some-clause-looker : goal.returns-in-Some-clause-looker
returns-in-Some-clause-looker g c = λ is. record {
  moments = c.in_ok-look.ensures.are is.moments;
  look = plain ((rw c.in-Some.is at c.in_ok-look.ensures.shown) is.moments);
  moment = (rw c.in-Some.is at c.in_ok-look.ensures.shown) is.moments;
  words = (rw c.in-Some.is at c.in_ok-look.ensures.words) is.moments;
}
