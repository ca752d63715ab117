use Rattle.std.proofs.Common.{◌∙◌, ap, refl}
use Rattle.std.proofs.lemmas.Result.{err_from_is_err_and}
use Rattle.press_tasks.specs.declared.task.Task.TheVariants as kind
use Rattle.std.specs.Prelude.{Option}
use Rattle.std.specs.Result.{result_map_both}
use Rattle.press_tasks.specs.declared.task.Task.{Task}
use Rattle.desk_journal.specs.Views.{DeskInfo, Place}
use Rattle.caret_moves.specs.declared.wish.KeyWish.TheVariants.{CutSelected}
use Rattle.press_plans.specs.Plans.{entry_plan, erase_plan, over_plan, plan_of, scroll_plan, shown_plan}
use Rattle.press_tasks.specs.Tasks.{posting}
use Rattle.press_plans.proofs.Planning.{by_screen, plans_at_once, plans_by_lead, plans_by_presses, plans_seen, plans_unseen}
use Rattle.press_plans.proofs.Planning.{plans_by_told}
use Rattle.press_plans.proofs.plan.plan_of.Goals as goal

pub returns-in-Enter : goal.returns-in-Enter
unfolding plan_of
returns-in-Enter g c = rw c.in-Enter.is (plans_at_once g.D.Disk c.entry_plan.result c.args.store.now c.requires (λ honest.
    c.entry_plan.ensures ∙ ap (λ (info : DeskInfo). entry_plan info.is_marked c.in-Enter.cell) c.info_of.ensures))

pub returns-in-Show : goal.returns-in-Show
unfolding plan_of
returns-in-Show g c = rw c.in-Show.is (plans_at_once g.D.Disk c.shown_plan.result c.args.store.now c.requires
    (λ honest. c.shown_plan.ensures ∙ ap (λ (place : Option Place). shown_plan place) c.caret_place.ensures))

pub returns-in_ok-presses-in-Scroll : goal.returns-in_ok-presses-in-Scroll
unfolding plan_of
returns-in_ok-presses-in-Scroll g c = rw c.in-Scroll.is (plans_seen g.D.Disk c.in_ok-presses-in-Scroll.presses c.scroll_plan.result
    c.in_ok-presses-in-Scroll.ensures.looks
    (plans_by_presses g.D.Disk (kind.Scroll c.in-Scroll.at c.in-Scroll.wish) c.scroll_plan.result
    (scroll_plan c.in-Scroll.wish) c.args.store.now (λ desktop. refl) c.scroll_plan.ensures
    c.in_ok-presses-in-Scroll.ensures.scrolls))

pub returns-in_err-presses-in-Scroll : goal.returns-in_err-presses-in-Scroll
returns-in_err-presses-in-Scroll g c =
    let p = err_from_is_err_and c.from_residual.result c.from_residual.ensures.1 in
    rw (p.1, p.2) (plans_unseen g.D.Disk c.in_err-presses-in-Scroll.ensures.looks)

pub returns-in_ok-told-in-Lead : goal.returns-in_ok-told-in-Lead
returns-in_ok-told-in-Lead g c = rw c.in-Lead.is (plans_seen g.D.Disk c.in_ok-told-in-Lead.told c.lead_plan.result
    c.in_ok-told-in-Lead.ensures.looks
    (plans_by_lead g.D.Disk c.in-Lead.wish c.lead_plan.result c.args.store.now c.lead_plan.ensures
    c.in_ok-told-in-Lead.ensures.leads))

pub returns-in_err-told-in-Lead : goal.returns-in_err-told-in-Lead
returns-in_err-told-in-Lead g c =
    let p = err_from_is_err_and c.from_residual-in_err-told-in-Lead.result c.from_residual-in_err-told-in-Lead.ensures.1 in
    rw (p.1, p.2) (plans_unseen g.D.Disk c.in_err-told-in-Lead.ensures.looks)

pub returns-in_ok-told-in-TypeOver : goal.returns-in_ok-told-in-TypeOver
unfolding plan_of
returns-in_ok-told-in-TypeOver g c = rw c.in-TypeOver.is (plans_seen g.D.Disk c.in_ok-told-in-TypeOver.told c.over_plan.result
    c.in_ok-told-in-TypeOver.ensures.looks
    (plans_by_told g.D.Disk (kind.TypeOver c.in-TypeOver.event c.in-TypeOver.fills) CutSelected
    (over_plan (posting c.in-TypeOver.fills c.in-TypeOver.event)) c.over_plan.result c.args.store.now (λ desktop. refl)
    (c.over_plan.ensures ∙ ap (λ (next : Task). over_plan next (result_map_both (λ events. events.items) (λ why. why)
    c.in_ok-told-in-TypeOver.told)) c.posting.ensures)
    c.in_ok-told-in-TypeOver.ensures.leads))

pub returns-in_err-told-in-TypeOver : goal.returns-in_err-told-in-TypeOver
returns-in_err-told-in-TypeOver g c =
    let p = err_from_is_err_and c.from_residual-in_err-told-in-TypeOver.result
    c.from_residual-in_err-told-in-TypeOver.ensures.1 in
    rw (p.1, p.2) (plans_unseen g.D.Disk c.in_err-told-in-TypeOver.ensures.looks)

pub returns-in_ok-told-in-Erase : goal.returns-in_ok-told-in-Erase
unfolding plan_of
returns-in_ok-told-in-Erase g c = rw c.in-Erase.is (plans_seen g.D.Disk c.in_ok-told-in-Erase.told c.erase_plan.result
    c.in_ok-told-in-Erase.ensures.looks
    (plans_by_told g.D.Disk (kind.Erase c.in-Erase.behind) CutSelected (erase_plan c.in-Erase.behind)
    c.erase_plan.result c.args.store.now (λ desktop. refl) c.erase_plan.ensures c.in_ok-told-in-Erase.ensures.leads))

pub returns-in_err-told-in-Erase : goal.returns-in_err-told-in-Erase
returns-in_err-told-in-Erase g c =
    let p = err_from_is_err_and c.from_residual-in_err-told-in-Erase.result c.from_residual-in_err-told-in-Erase.ensures.1 in
    rw (p.1, p.2) (plans_unseen g.D.Disk c.in_err-told-in-Erase.ensures.looks)

pub plan_seen-requires-clause-seen : goal.plan_seen-requires-clause-seen
plan_seen-requires-clause-seen g c = by_screen _ c.args.store.now.desktop c.in_default.not-Post c.in_default.not-Scroll
    c.in_default.not-Lead c.in_default.not-After c.in_default.not-Enter c.in_default.not-Page
    c.in_default.not-Show c.in_default.not-TypeOn c.in_default.not-GoBack c.in_default.not-TypeOver c.in_default.not-Erase
    c.in_default.not-Pour c.in_default.not-Find c.in_default.not-Refill c.in_default.not-Extend c.in_default.not-Call

pub returns-in-Call : goal.returns-in-Call
unfolding plan_of
returns-in-Call g c =
    rw c.in-Call.is (record { exact = c.post_plan-in-Call.ensures.exact; looks = c.post_plan-in-Call.ensures.looks })

pub returns-in-GoBack : goal.returns-in-GoBack
unfolding plan_of
returns-in-GoBack g c = rw c.in-GoBack.is (record { exact = c.go_then.ensures.exact; looks = c.go_then.ensures.looks })
