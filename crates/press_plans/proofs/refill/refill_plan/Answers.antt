use Rattle.std.proofs.Common.{◌∙◌, ap}
use Rattle.desk_journal.specs.Views.{DeskInfo}
use Rattle.press_plans.specs.Filling.{is_place}
use Rattle.press_plans.specs.Plans.{begin_refill, plan_of, stroke_plan}
use Rattle.press_plans.proofs.Planning.{plans_at_once}
use Rattle.press_plans.proofs.refill.refill_plan.Goals as goal

pub returns-in-Begin : goal.returns-in-Begin
unfolding plan_of
returns-in-Begin g c = rw c.in-Begin.is (plans_at_once g.D.Disk c.begin_plan.result c.args.store.now c.requires (λ honest.
    c.begin_plan.ensures ∙ ap (λ (info : DeskInfo). begin_refill info.caret_position) c.info_of.ensures))

pub returns-in-Do : goal.returns-in-Do
unfolding plan_of
returns-in-Do g c = rw c.in-Do.is (plans_at_once g.D.Disk c.stroke_plan.result c.args.store.now c.requires (λ honest.
    c.stroke_plan.ensures ∙ (λ k. stroke_plan (c.is_place.ensures k) c.in-Do.home c.in-Do.at c.in-Do.stroke)
    ∙ ap (λ (info : DeskInfo). stroke_plan (is_place c.in-Do.at info.caret_position) c.in-Do.home c.in-Do.at c.in-Do.stroke)
    c.info_of-in-Do.ensures))

pub returns-in-Go : goal.returns-in-Go
unfolding plan_of
returns-in-Go g c = rw c.in-Go.is (record { exact = c.go_then.ensures.exact; looks = c.go_then.ensures.looks })
