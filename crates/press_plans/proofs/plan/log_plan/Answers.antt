use Rattle.std.proofs.Common.{◌∙◌}
use Rattle.std.proofs.lemmas.Bool.{le-ltb, lt-ltb}
use Rattle.std.proofs.lemmas.Result.{err_from_is_err_and}
use Rattle.press_plans.proofs.Planning.{log_answer, no_answer, plans_at_once, plans_seen, plans_unseen}
use Rattle.press_plans.proofs.plan.log_plan.Goals as goal

pub returns-then-not-is_longer : goal.returns-then-not-is_longer
returns-then-not-is_longer g c = plans_at_once g.D.Disk _ c.args.store.now c.requires.usable
    (λ honest. c.comeback_plan.ensures ∙ no_answer c.args.before c.args.cell c.args.store.now.desktop c.requires.none c.info_of.result c.info_of.ensures
    (le-ltb c.args.before.log_length c.info_of.result.log_length c.if-not-is_longer.true))

pub returns-in_err-line : goal.returns-in_err-line
returns-in_err-line g c =
    let p = err_from_is_err_and c.from_residual.result c.from_residual.ensures.1 in
    rw (p.1, p.2) (plans_unseen g.D.Disk c.in_err-line.ensures.looks)

pub returns : goal.returns
returns g c = plans_seen g.D.Disk c.in_ok-line.line _ c.in_ok-line.ensures.looks
    (λ honest. log_answer c.args.before c.args.cell c.args.store.now.desktop c.requires.none c.info_of.result c.info_of.ensures
    c.in_ok-line.line.items (lt-ltb c.args.before.log_length c.info_of.result.log_length c.if-not-is_longer.false)
    (c.in_ok-line.ensures.told honest))
