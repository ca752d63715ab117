use Rattle.all_moments.proofs.AtHand.{all_now}
use Rattle.all_moments.proofs.Backward.{all_on}
use Rattle.all_moments.proofs.all.AllMoments.look_first.Goals as goal

pub returns-in-None-clause-are : goal.returns-in-None-clause-are
returns-in-None-clause-are g c = λ is. all_now g.D.Disk c.at.new.store c.args.self.now c.at.new.self
    (c.in_ok-at.ensures.are is.known.in_use) (all_on g.D.Disk c.at.ensures.still c.requires
    (c.shows_what_crashes_leave.ensures.quiet c.requires) c.args.self.now is)

pub returns-in-Some-2-clause-shown : goal.returns-in-Some-2-clause-shown
returns-in-Some-2-clause-shown g c = λ is. (rw c.in-Some-2.is at c.in_ok-at.ensures.shown) is.known.in_use

pub returns-in-Some-2-clause-are : goal.returns-in-Some-2-clause-are
returns-in-Some-2-clause-are g c = λ is. all_now g.D.Disk c.at.new.store c.args.self.now c.at.new.self
    (c.in_ok-at.ensures.are is.known.in_use) (all_on g.D.Disk c.at.ensures.still c.requires
    (c.shows_what_crashes_leave.ensures.quiet c.requires) c.args.self.now is)
