use Rattle.std.proofs.Common.{◌∙◌, ap}
use Rattle.desktop_definitions.specs.Change.{bytes_of}
use Rattle.press_plans.proofs.Planning.{plans_seen}
use Rattle.press_plans.proofs.Refilled.{fills, fills_in_no_row, fills_nowhere}
use Rattle.press_plans.proofs.refill.seek_edit.Goals as goal

pub returns-in_default : goal.returns-in_default
returns-in_default g c = plans_seen g.D.Disk c.in_ok-found.found _ c.in_ok-found.ensures.looks (λ honest.
    fills_nowhere c.args.home c.args.begins c.search_from-start.result c.caret_place.result c.args.store.now.desktop
    c.search_from-start.ensures c.caret_place.ensures (rw c.in_default.is at c.in_ok-found.ensures.told honest))

pub returns-then-start-eq0 : goal.returns-then-start-eq0
returns-then-start-eq0 g c = plans_seen g.D.Disk c.in_ok-found.found _ c.in_ok-found.ensures.looks (λ honest.
    fills_in_no_row c.args.home c.args.begins c.search_from-start.result c.caret_place.result c.args.store.now.desktop
    c.search_from-start.ensures c.caret_place.ensures c.in-Some.characters.items
    (rw c.in-Some.is at c.in_ok-found.ensures.told honest) c.if-start-eq0.true)

pub returns-in-Ok : goal.returns-in-Ok
returns-in-Ok g c = plans_seen g.D.Disk c.in_ok-found.found _ c.in_ok-found.ensures.looks (λ honest.
    c.edit_plan.ensures
    ∙ fills c.args.home c.args.begins c.search_from-start.result c.caret_place.result c.args.store.now.desktop
    c.search_from-start.ensures c.caret_place.ensures c.in-Some.characters.items _ c.fill_edit.result
    (rw c.in-Some.is at c.in_ok-found.ensures.told honest) c.if-start-eq0.false
    (c.as_slice-in-Ok.ensures.value ∙ c.in-Ok.ensures ∙ ap bytes_of c.as_slice.ensures.value)
    (rw c.from.ensures at c.fill_edit.ensures))
