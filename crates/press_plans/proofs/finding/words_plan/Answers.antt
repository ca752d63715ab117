use Rattle.std.proofs.Common.{◌∙◌, ap}
use Rattle.desktop_definitions.specs.Change.{bytes_of}
use Rattle.press_plans.proofs.Planning.{plans_seen}
use Rattle.press_plans.proofs.Seeking.{seeks, seeks_in_no_row, seeks_nowhere}
use Rattle.press_plans.proofs.finding.words_plan.Goals as goal

pub returns-in_default : goal.returns-in_default
returns-in_default g c = plans_seen g.D.Disk c.in_ok-found.found _ c.in_ok-found.ensures.looks (λ honest.
    seeks_nowhere c.args.words c.args.before c.search_from-start.result c.info_of.result c.caret_place.result
    c.args.store.now.desktop c.search_from-start.ensures c.info_of.ensures c.caret_place.ensures
    (rw c.in_default.is at c.in_ok-found.ensures.told honest))

pub returns-then-start-eq0 : goal.returns-then-start-eq0
returns-then-start-eq0 g c = plans_seen g.D.Disk c.in_ok-found.found _ c.in_ok-found.ensures.looks (λ honest.
    seeks_in_no_row c.args.words c.args.before c.search_from-start.result c.info_of.result c.caret_place.result
    c.args.store.now.desktop c.search_from-start.ensures c.info_of.ensures c.caret_place.ensures c.in-Some.characters.items
    (rw c.in-Some.is at c.in_ok-found.ensures.told honest) c.if-start-eq0.true)

pub returns-in-Ok : goal.returns-in-Ok
returns-in-Ok g c = plans_seen g.D.Disk c.in_ok-found.found _ c.in_ok-found.ensures.looks (λ honest.
    c.found_plan.ensures
    ∙ seeks c.args.words c.args.before c.search_from-start.result c.info_of.result c.caret_place.result
    c.args.store.now.desktop c.search_from-start.ensures c.info_of.ensures c.caret_place.ensures c.in-Some.characters.items
    _ _ c.sought.result (rw c.in-Some.is at c.in_ok-found.ensures.told honest) c.if-start-eq0.false
    (c.as_slice-in-Ok.ensures.value ∙ c.in-Ok.ensures ∙ ap bytes_of c.as_slice.ensures.value) c.as_bytes.ensures.value c.sought.ensures)
