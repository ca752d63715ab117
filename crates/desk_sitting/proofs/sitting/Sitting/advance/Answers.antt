use Rattle.std.proofs.lemmas.Result.{err_from_is_err_and}
use Rattle.press_plans.specs.Plans.{seen_plan}
use Rattle.desk_sitting.proofs.Carrying.{stage_broken, stage_done, stage_left, stage_unseen, went_so}
use Rattle.desk_sitting.proofs.sitting.Sitting.advance.Goals as goal

pub returns-clause-does : goal.returns-clause-does
returns-clause-does g c = stage_done g.D.Disk c.in_ok-plan.plan c.args.task (seen_plan c.in_ok-plan.plan) c.args.self.now
    c.requires c.in_ok-plan.ensures.looks c.in_ok-plan.ensures.exact c.in_ok-next.next c.post_planned.new.self
    c.went_on.new.self
    (went_so c.args.task c.args.self.now c.post_planned.new.self c.deed-deed.ensures c.kept_follows-follows.ensures
    c.went_on.ensures) c.in_ok-next.ensures.does

pub returns-clause-left : goal.returns-clause-left
returns-clause-left g c = stage_left g.D.Disk c.in_ok-plan.plan c.args.task (seen_plan c.in_ok-plan.plan) c.args.self.now
    c.requires c.in_ok-plan.ensures.looks c.in_ok-plan.ensures.exact c.in_ok-next.next c.in_ok-next.ensures.left

pub returns-in_err-plan-clause-does : goal.returns-in_err-plan-clause-does
returns-in_err-plan-clause-does g c =
    let p = err_from_is_err_and c.from_residual.result c.from_residual.ensures.1 in
    rw (p.1, p.2) (stage_unseen g.D.Disk c.requires c.in_err-plan.field-0.0 _ _ c.args.self.now
    c.in_err-plan.ensures.looks)

pub returns-in_err-next-clause-does : goal.returns-in_err-next-clause-does
returns-in_err-next-clause-does g c =
    let p = err_from_is_err_and c.from_residual-in_err-next.result c.from_residual-in_err-next.ensures.1 in
    rw (p.1, p.2) (stage_broken g.D.Disk c.in_ok-plan.plan c.args.task (seen_plan c.in_ok-plan.plan) c.args.self.now
    c.requires c.in_ok-plan.ensures.looks c.in_ok-plan.ensures.exact c.in_err-next.field-0.0 c.post_planned.new.self
    c.post_planned.new.self c.in_err-next.ensures.does)
