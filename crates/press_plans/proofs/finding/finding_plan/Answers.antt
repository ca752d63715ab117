use Rattle.std.proofs.Common.{◌∙◌, ap, refl, List, ℕ}
use Rattle.std.proofs.lemmas.Result.{err_from_is_err_and}
use Rattle.desk_journal.specs.Views.{DeskInfo}
use Rattle.caret_moves.specs.declared.wish.KeyWish.TheVariants.{Place}
use Rattle.press_tasks.specs.declared.task.Task.TheVariants as kind
use Rattle.press_tasks.specs.declared.finding.Finding.TheVariants as finding
use Rattle.press_plans.specs.Plans.{bring_plan, on_plan, placed_plan, plan_of, reach_plan, told_plan}
use Rattle.press_plans.proofs.Planning.{plans_at_once, plans_by_presses, plans_by_told, plans_seen, plans_unseen}
use Rattle.press_plans.proofs.finding.finding_plan.Goals as goal

pub returns-in-On : goal.returns-in-On
unfolding plan_of
returns-in-On g c = rw c.in-On.is (plans_at_once g.D.Disk c.on_plan.result c.args.store.now c.requires (λ honest.
    c.on_plan.ensures ∙ ap (λ (pattern : List ℕ). on_plan pattern c.in-On.before) c.pattern_of.ensures))

pub returns-in-Tell : goal.returns-in-Tell
unfolding plan_of
returns-in-Tell g c = rw c.in-Tell.is (plans_at_once g.D.Disk c.told_plan.result c.args.store.now c.requires (λ honest.
    c.told_plan.ensures ∙ ap (λ (info : DeskInfo). told_plan c.in-Tell.found info.caret_position) c.info_of.ensures))

pub returns-in_ok-told-in-Reach : goal.returns-in_ok-told-in-Reach
unfolding plan_of
returns-in_ok-told-in-Reach g c = rw c.in-Reach.is (plans_seen g.D.Disk c.in_ok-told-in-Reach.told c.reach_plan.result
    c.in_ok-told-in-Reach.ensures.looks
    (plans_by_told g.D.Disk (kind.Find (finding.Reach c.in-Reach.found)) (Place c.in-Reach.found.place)
    (reach_plan c.in-Reach.found) c.reach_plan.result c.args.store.now (λ desktop. refl) c.reach_plan.ensures
    c.in_ok-told-in-Reach.ensures.leads))

pub returns-in_err-told-in-Reach : goal.returns-in_err-told-in-Reach
returns-in_err-told-in-Reach g c =
    let p = err_from_is_err_and c.from_residual.result c.from_residual.ensures.1 in
    rw (p.1, p.2) (plans_unseen g.D.Disk c.in_err-told-in-Reach.ensures.looks)

pub returns-in_ok-presses-in-Bring : goal.returns-in_ok-presses-in-Bring
unfolding plan_of
returns-in_ok-presses-in-Bring g c = rw c.in-Bring.is (plans_seen g.D.Disk c.in_ok-presses-in-Bring.presses c.bring_plan.result
    c.in_ok-presses-in-Bring.ensures.looks
    (plans_by_presses g.D.Disk (kind.Find (finding.Bring c.in-Bring.found)) c.bring_plan.result
    (bring_plan c.in-Bring.found) c.args.store.now (λ desktop. refl) c.bring_plan.ensures
    c.in_ok-presses-in-Bring.ensures.scrolls))

pub returns-in_err-presses-in-Bring : goal.returns-in_err-presses-in-Bring
returns-in_err-presses-in-Bring g c =
    let p = err_from_is_err_and c.from_residual-in_err-presses-in-Bring.result
    c.from_residual-in_err-presses-in-Bring.ensures.1 in
    rw (p.1, p.2) (plans_unseen g.D.Disk c.in_err-presses-in-Bring.ensures.looks)

pub returns-in_ok-told-in-Arrive : goal.returns-in_ok-told-in-Arrive
unfolding plan_of
returns-in_ok-told-in-Arrive g c = rw c.in-Arrive.is (plans_seen g.D.Disk c.in_ok-told-in-Arrive.told c.placed_plan.result
    c.in_ok-told-in-Arrive.ensures.looks
    (plans_by_told g.D.Disk (kind.Find (finding.Arrive c.in-Arrive.found)) (Place c.in-Arrive.found.place)
    (λ told. placed_plan (Place c.in-Arrive.found.place) told (kind.Find (finding.Tell c.in-Arrive.found)))
    c.placed_plan.result c.args.store.now (λ desktop. refl) c.placed_plan.ensures
    c.in_ok-told-in-Arrive.ensures.leads))

pub returns-in_err-told-in-Arrive : goal.returns-in_err-told-in-Arrive
returns-in_err-told-in-Arrive g c =
    let p = err_from_is_err_and c.from_residual-in_err-told-in-Arrive.result
    c.from_residual-in_err-told-in-Arrive.ensures.1 in
    rw (p.1, p.2) (plans_unseen g.D.Disk c.in_err-told-in-Arrive.ensures.looks)
