use Rattle.std.proofs.Common.{◌≡◌, ◌+◌, ◌∙◌, suc, refl, sym, arith, Some, Ok}
use Rattle.std.proofs.lemmas.Result.{err_from_is_err_and}
use Rattle.press_tasks.specs.declared.task.TheConstants.{MOST_PLANS}
use Rattle.desk_sitting.specs.Sittings.{most_plans}
use Rattle.desk_sitting.proofs.Carrying.{broken_stage, carried_early, carried_to, next_left, next_stage, none_of}
use Rattle.desk_sitting.proofs.Carrying.{plans_are, within_plans}
use Rattle.desk_sitting.proofs.Pressed.{none_posted, press_told}
use Rattle.desk_sitting.proofs.sitting.Sitting.carry_out.Goals as goal

pub loop-count-init : goal.loop-count-init
loop-count-init g c = record {
  takes = none_posted g.D.Disk c.args.self.now c.args.store.now c.requires;
  left = λ honest durable. refl;
}

pub loop-count-preserved : goal.loop-count-preserved
loop-count-preserved g c =
    let i = c.loop-count.invariant in
    let more : suc c.loop-count._count ≡ c.loop-count._count + 1 = omega arith in
    record {
      takes = carried_to g.D.Disk (Some c.args.task) c.args.self.now more (press_told g.D.Disk tt
          (next_stage g.D.Disk c.loop-count._count (Some c.args.task) c.loop-count.left c.args.self.now _ i.takes i.left (Ok _)
          c.in_ok-left.ensures.does));
      left = next_left g.D.Disk c.loop-count._count (Some c.args.task) c.loop-count.left c.args.self.now _ i.takes i.left _
          more c.in_ok-left.ensures.left;
    }

pub returns-then-is_none : goal.returns-then-is_none
returns-then-is_none g c =
    let i = c.loop-count.invariant in
    carried_early g.D.Disk (Some c.args.task) c.in_ok-left.left c.args.self.now refl (within_plans (omega arith))
    (next_left g.D.Disk c.loop-count._count (Some c.args.task) c.loop-count.left c.args.self.now _ i.takes i.left _ refl
    c.in_ok-left.ensures.left)
    (none_of c.in_ok-left.left c.is_none.result c.is_none.ensures c.if-is_none.true)
    (press_told g.D.Disk tt (next_stage g.D.Disk c.loop-count._count (Some c.args.task) c.loop-count.left c.args.self.now _
    i.takes i.left (Ok _) c.in_ok-left.ensures.does))

pub returns : goal.returns
returns g c =
    let last : c.loop-count._count ≡ MOST_PLANS = omega arith in
    let most : c.loop-count._count ≡ most_plans = last ∙ sym plans_are in
    carried_to g.D.Disk (Some c.args.task) c.args.self.now most c.loop-count.invariant.takes

pub returns-in_err-left : goal.returns-in_err-left
returns-in_err-left g c =
    let p = err_from_is_err_and c.from_residual.result c.from_residual.ensures.1 in
    let i = c.loop-count.invariant in
    rw (p.1, p.2) (broken_stage g.D.Disk c.loop-count._count (Some c.args.task) c.loop-count.left c.args.self.now _
    i.takes i.left most_plans (within_plans (omega arith)) c.in_err-left.field-0.0 c.in_err-left.ensures.does)
