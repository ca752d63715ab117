use Rattle.std.proofs.Common.{◌∙◌, ap, sym}
use Rattle.std.specs.Prelude.{Option}
use Rattle.std.specs.Result.{result_map_both}
use Rattle.std.proofs.lemmas.Result.{err_from_is_err_and}
use Rattle.event_bytes.specs.declared.event.Event.{Event}
use Rattle.press_plans.specs.Filling.{room_if}
use Rattle.press_plans.specs.Plans.{broken_plan, unbroken_plan}
use Rattle.press_plans.proofs.Planning.{broken, plans_at_once, plans_seen, plans_unseen, unbroken}
use Rattle.press_plans.proofs.filling.type_plan.Goals as goal

pub returns-in_default : goal.returns-in_default
returns-in_default g c = plans_at_once g.D.Disk _ c.args.store.now c.requires (λ honest.
    c.unbroken_plan.ensures
    ∙ ap (λ (next : Option Event). unbroken_plan next c.args.typing c.args.fills c.args.deed) c.first-next.ensures
    ∙ unbroken c.args.typing c.args.fills c.args.deed c.args.store.now.desktop
    (sym c.in_default.is ∙ c.room_if.ensures ∙ ap (λ (next : Option Event). room_if c.args.fills next) c.first-next.ensures))

pub returns-in_err-told : goal.returns-in_err-told
returns-in_err-told g c =
    let p = err_from_is_err_and c.from_residual.result c.from_residual.ensures.1 in
    rw (p.1, p.2) (plans_unseen g.D.Disk c.in_err-told.ensures.looks)

pub returns : goal.returns
returns g c = plans_seen g.D.Disk c.in_ok-told.told _ c.in_ok-told.ensures.looks (λ honest.
    c.broken_plan.ensures
    ∙ ap (λ (next : Option Event). broken_plan
    (result_map_both (λ events. events.items) (λ why. why) c.in_ok-told.told) c.one_behind-place.result next c.args.typing
    c.args.fills c.args.deed)
    c.first-next.ensures
    ∙ broken c.args.typing c.args.fills c.args.deed c.args.store.now.desktop c.in-Some.count c.one_behind-place.result
    c.info_of.result (result_map_both (λ events. events.items) (λ why. why) c.in_ok-told.told)
    (sym c.in-Some.is ∙ c.room_if.ensures ∙ ap (λ (next : Option Event). room_if c.args.fills next) c.first-next.ensures)
    c.one_behind-place.ensures c.info_of.ensures (c.in_ok-told.ensures.leads honest).exact)
