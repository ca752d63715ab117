use Rattle.std.proofs.Common.{◌∙◌, sym}
use Rattle.press_plans.proofs.Meant.{uncalled}
use Rattle.press_plans.proofs.Planning.{plans_at_once}
use Rattle.press_plans.proofs.plan.post_plan.Goals as goal

pub returns-else-is_call : goal.returns-else-is_call
returns-else-is_call g c = plans_at_once g.D.Disk _ c.args.store.now c.requires (λ honest.
    uncalled c.args.store.now.desktop c.args.event c.uncalled_event.result
    (sym c.is_call.ensures ∙ c.if-is_call.false) c.uncalled_event.ensures)
