use Rattle.past_moments.proofs.moments.Moments.look_plain.Goals as goal

pub returns-in-Some-clause-shown : goal.returns-in-Some-clause-shown
returns-in-Some-clause-shown g c = λ are. (rw c.in-Some.is at c.in_ok-at.ensures.shown) are
