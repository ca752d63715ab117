use Rattle.std.proofs.Common.{◌∙◌, sym}
use Rattle.std.proofs.lemmas.Result.{err_from_is_err_and}
use Rattle.press_plans.proofs.Planning.{goes, plans_at_once, plans_seen, plans_unseen, stands}
use Rattle.press_plans.proofs.filling.go_then.Goals as goal

pub returns-then-is_place : goal.returns-then-is_place
returns-then-is_place g c = plans_at_once g.D.Disk _ c.args.store.now c.requires (λ honest.
    stands c.args.wish c.args.place c.args.next c.args.store.now.desktop c.info_of.result c.info_of.ensures
    (sym c.is_place.ensures ∙ c.if-is_place.true))

pub returns-in_err-told : goal.returns-in_err-told
returns-in_err-told g c =
    let p = err_from_is_err_and c.from_residual.result c.from_residual.ensures.1 in
    rw (p.1, p.2) (plans_unseen g.D.Disk c.in_err-told.ensures.looks)

pub returns : goal.returns
returns g c = plans_seen g.D.Disk c.in_ok-told.told _ c.in_ok-told.ensures.looks (λ honest.
    c.placed_plan.ensures
    ∙ goes c.args.wish c.args.place c.args.next c.args.store.now.desktop c.info_of.result c.info_of.ensures _
    (sym c.is_place.ensures ∙ c.if-is_place.false) (c.in_ok-told.ensures.leads honest).exact)
