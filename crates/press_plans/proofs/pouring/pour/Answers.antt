use Rattle.std.proofs.Common.{◌∙◌}
use Rattle.std.proofs.lemmas.Result.{err_from_is_err_and}
use Rattle.press_plans.proofs.Planning.{plans_seen, plans_unseen, pours}
use Rattle.press_plans.proofs.pouring.pour.Goals as goal

pub returns-in_err-told : goal.returns-in_err-told
returns-in_err-told g c =
    let p = err_from_is_err_and c.from_residual.result c.from_residual.ensures.1 in
    rw (p.1, p.2) (plans_unseen g.D.Disk c.in_err-told.ensures.looks)

pub returns : goal.returns
returns g c = plans_seen g.D.Disk c.in_ok-told.told _ c.in_ok-told.ensures.looks (λ honest.
    c.poured_plan.ensures
    ∙ pours c.args.bytes c.args.typed c.standing-place.result c.info_of.result _ c.args.store.now.desktop
    c.standing-place.ensures c.info_of.ensures (c.in_ok-told.ensures.leads honest).exact)
