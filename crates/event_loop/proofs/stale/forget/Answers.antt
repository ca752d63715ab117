use Rattle.event_loop.proofs.StaleLemmas.{another}
use Rattle.event_loop.proofs.stale.forget.Goals as goal

pub returns-in-Text : goal.returns-in-Text
returns-in-Text c = λ before after same fronts told.
    c.forget_text.ensures before after (λ n other. same n (rw c.in-Text.is (another n c.in-Text.number other)))
    (fronts c.in-Text.number) told

pub returns-in-All : goal.returns-in-All
returns-in-All c = λ before after same fronts told. c.forget_all.ensures after
