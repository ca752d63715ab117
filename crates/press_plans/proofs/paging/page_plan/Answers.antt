use Rattle.std.proofs.Common.{◌∙◌}
use Rattle.std.proofs.lemmas.Result.{err_from_is_err_and}
use Rattle.press_plans.proofs.Planning.{pages, plans_seen, plans_unseen}
use Rattle.press_plans.proofs.paging.page_plan.Goals as goal

pub returns-in_err-presses : goal.returns-in_err-presses
returns-in_err-presses g c =
    let p = err_from_is_err_and c.from_residual.result c.from_residual.ensures.1 in
    rw (p.1, p.2) (plans_unseen g.D.Disk c.in_err-presses.ensures.looks)

pub returns : goal.returns
returns g c = plans_seen g.D.Disk c.in_ok-presses.presses _ c.in_ok-presses.ensures.looks (λ honest.
    c.paged_plan.ensures
    ∙ pages c.args.at c.args.is_up c.args.sight c.args.store.now.desktop _ c.place_meant-place.result c.caret_place.result _ _ _
    c.place_meant-place.ensures c.caret_place.ensures c.goes_along-caret.ensures c.text_rows_in_sight.ensures
    c.page_wish-wish.ensures (c.in_ok-presses.ensures.scrolls honest).exact)
