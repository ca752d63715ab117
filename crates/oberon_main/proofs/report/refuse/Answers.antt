use Rattle.oberon_main.proofs.Saying.{whole_unless_failed}
use Rattle.oberon_main.proofs.report.refuse.Goals as goal

pub returns-clause-whole : goal.returns-clause-whole
returns-clause-whole g c = λ calm. whole_unless_failed c.say_refusal.result _ _ calm c.say_refusal.ensures.cause
    c.say_refusal.ensures.sent
