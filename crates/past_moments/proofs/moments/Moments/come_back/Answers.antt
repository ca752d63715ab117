use Rattle.past_moments.proofs.moments.Moments.come_back.Goals as goal

pub returns-clause-shown : goal.returns-clause-shown
returns-clause-shown g c = λ are. (rw c.in-Some.is at c.in_ok-there.ensures.shown) are
