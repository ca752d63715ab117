use Rattle.std.proofs.Common.{◌∙◌}
use Rattle.std.proofs.lemmas.Result.{IfOk-weaker}
use Rattle.press_plans.proofs.Planning.{plans_at_once}
use Rattle.press_plans.proofs.Seeking.{begins_asking, begins_nowhere, begins_over, plans_or_starves}
use Rattle.press_plans.proofs.finding.begin_plan.Goals as goal

pub returns-then-is_none : goal.returns-then-is_none
returns-then-is_none g c = plans_at_once g.D.Disk _ c.args.store.now c.requires (λ honest.
    begins_nowhere c.args.over c.args.before c.info_of.result c.args.store.now.desktop c.info_of.ensures c.is_none.result
    c.is_none.ensures c.if-is_none.true)

pub returns-then-not-over : goal.returns-then-not-over
returns-then-not-over g c = plans_at_once g.D.Disk _ c.args.store.now c.requires (λ honest.
    begins_asking c.args.over c.args.before c.info_of.result c.args.store.now.desktop c.info_of.ensures c.is_none.result
    c.is_none.ensures c.if-is_none.false c.if-not-over.true)

pub returns : goal.returns
returns g c = plans_or_starves g.D.Disk c.in_ok-found.found c.search_plan.result c.in_ok-found.ensures.looks
    (IfOk-weaker c.search_plan.result _ _ (λ plan seen honest. seen
    ∙ begins_over c.args.over c.args.before c.info_of.result c.args.store.now.desktop c.info_of.ensures c.is_none.result
    c.is_none.ensures _ c.if-is_none.false c.if-not-over.false (c.in_ok-found.ensures.told honest)) c.search_plan.ensures.plan)
    c.search_plan.ensures.error
