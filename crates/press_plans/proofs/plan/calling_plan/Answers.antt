use Rattle.std.proofs.Common.{◌∙◌, ap, sym, ◌∷◌, []}
use Rattle.std.specs.Prelude.{Some}
use Rattle.std.proofs.lemmas.Result.{err_from_is_err_and}
use Rattle.desk_journal.specs.Views.{DeskInfo, desk_info}
use Rattle.press_tasks.specs.declared.task.Task.TheVariants as kind
use Rattle.press_plans.specs.Plans.{Events, empty_plan}
use Rattle.screen_reading.specs.Aims.{caret_cell}
use Rattle.press_plans.proofs.Meant.{called_in_viewer, called_on_empty}
use Rattle.press_plans.proofs.Planning.{plans_seen, plans_unseen}
use Rattle.press_plans.proofs.plan.calling_plan.Goals as goal

pub returns-in_err-screen : goal.returns-in_err-screen
returns-in_err-screen g c =
    let p = err_from_is_err_and c.from_residual.result c.from_residual.ensures.1 in
    rw (p.1, p.2) (plans_unseen g.D.Disk c.in_err-screen.ensures.looks)

pub returns-then-begins_in_viewer : goal.returns-then-begins_in_viewer
returns-then-begins_in_viewer g c = plans_seen g.D.Disk tt _ c.in_ok-screen.ensures.looks (λ honest.
    (λ k. Events (c.args.event ∷ []) (Some (kind.After (c.info_of-before.ensures k)
    ((c.caret_of.ensures.value ∙ ap caret_cell (c.in_ok-screen.ensures.shown honest)) k))))
    ∙ called_in_viewer c.args.store.now.desktop c.args.event c.requires.call
    (sym c.begins_in_viewer.ensures ∙ c.if-begins_in_viewer.true))

pub returns-in_err-entries : goal.returns-in_err-entries
returns-in_err-entries g c =
    let p = err_from_is_err_and c.from_residual-in_err-entries.result c.from_residual-in_err-entries.ensures.1 in
    rw (p.1, p.2) (plans_unseen g.D.Disk c.in_err-entries.ensures.looks)

pub returns : goal.returns
returns g c = plans_seen g.D.Disk c.in_ok-entries.entries _ c.in_ok-entries.ensures.looks
    (λ honest. c.empty_plan.ensures
    ∙ ap (λ (info : DeskInfo). empty_plan c.args.event info c.as_slice.result.now) c.info_of-before.ensures
    ∙ ap (λ list. empty_plan c.args.event (desk_info c.args.store.now.desktop) list)
    (c.as_slice.ensures.value ∙ c.in_ok-entries.ensures.entries honest)
    ∙ called_on_empty c.args.store.now.desktop c.args.event c.requires.call
    (sym c.begins_in_viewer.ensures ∙ c.if-begins_in_viewer.false))
