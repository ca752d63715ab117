use Rattle.std.proofs.lemmas.Result.{err_from_is_err_and}
use Rattle.press_plans.proofs.Planning.{plans_seen, plans_unseen}
use Rattle.press_plans.proofs.Meant.{extended}
use Rattle.press_plans.proofs.plan.extend_plan.Goals as goal

pub returns-in_err-screen : goal.returns-in_err-screen
returns-in_err-screen g c =
    let p = err_from_is_err_and c.from_residual.result c.from_residual.ensures.1 in
    rw (p.1, p.2) (plans_unseen g.D.Disk c.in_err-screen.ensures.looks)

pub returns : goal.returns
returns g c = plans_seen g.D.Disk tt _ c.in_ok-screen.ensures.looks (λ honest.
    extended c.args.start c.args.at c.args.store.now.desktop c.place_at-place.result _ c.kept_end-kept.result
    c.unwrap_or.result c.draw.result c.place_at-place.ensures (c.in_ok-screen.ensures.shown honest)
    c.kept_end-kept.ensures c.unwrap_or.ensures c.draw.ensures)
