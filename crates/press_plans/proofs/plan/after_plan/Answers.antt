use Rattle.std.proofs.Common.{◌∙◌, sym}
use Rattle.press_plans.proofs.Planning.{opened_answer, plans_at_once}
use Rattle.press_plans.proofs.plan.after_plan.Goals as goal

pub returns-in-Some : goal.returns-in-Some
returns-in-Some g c = plans_at_once g.D.Disk _ c.args.store.now c.requires (λ honest. c.opened_plan.ensures
    ∙ opened_answer c.args.before c.args.cell c.args.store.now.desktop c.in-Some.viewer
    (sym c.opened_viewer.ensures ∙ c.in-Some.is))
