use Rattle.past_moments.proofs.moments.Moments.look_on.Goals as goal

pub returns-in-Ok-Some-clause-shown : goal.returns-in-Ok-Some-clause-shown
returns-in-Ok-Some-clause-shown g c = rw c.in-Ok-Some.field-0-is at c.in-Ok-Some.ensures.shown

pub returns-in-Ok-Some-clause-words : goal.returns-in-Ok-Some-clause-words
returns-in-Ok-Some-clause-words g c = rw c.in-Ok-Some.field-0-is at c.in-Ok-Some.ensures.words
