use Rattle.std.proofs.Common.{◌∙◌, ap, sym}
use Rattle.std.proofs.lemmas.Result.{err_from_is_err_and}
use Rattle.press_plans.specs.Plans.{plan_on}
use Rattle.press_plans.proofs.Planning.{plans_seen, plans_unseen}
use Rattle.press_plans.proofs.plan.plan_seen.Goals as goal

pub returns-in_err-screen : goal.returns-in_err-screen
returns-in_err-screen g c =
    let p = err_from_is_err_and c.from_residual.result c.from_residual.ensures.1 in
    rw (p.1, p.2) (plans_unseen g.D.Disk c.in_err-screen.ensures.looks)

pub returns : goal.returns
returns g c = plans_seen g.D.Disk tt c.plan_on.result c.in_ok-screen.ensures.looks
    (λ honest. c.plan_on.ensures ∙ ap (plan_on c.args.task) (c.in_ok-screen.ensures.shown honest)
    ∙ sym c.requires.seen)
