use Rattle.std.proofs.Common.{◌∙◌}
use Rattle.std.proofs.lemmas.Result.{IfOk-weaker}
use Rattle.past_moments.proofs.Ways.{done_front}
use Rattle.past_moments.proofs.legs.do_front.Goals as goal

pub returns-in-Events : goal.returns-in-Events
returns-in-Events c = IfOk-weaker c.post_front.result _ _ (λ done fact. λ yes p read.
    done_front c.args.deeds.now p c.args.count _ _ _
    (λ version page is. c.as_slice.ensures.value ∙ (rw c.in-Events.is at is))
    (λ version page is. (rw c.in-Events.is at is)) (λ version k to is. (rw c.in-Events.is at is))
    (λ version far sectors to is. (rw c.in-Events.is at is)) read (fact yes))
    c.post_front.ensures
