use Rattle.std.proofs.Common.{◌≡◌, ◌∙◌, ap, arith, Err}
use Rattle.std.proofs.lemmas.Result.{err_from_is_err_and}
use Rattle.desk_sitting.specs.declared.sitting.TheConstants.{MOST_TURNS}
use Rattle.desk_page.specs.Turns.{none, one_more}
use Rattle.desk_page.proofs.Turning.{asked_for, no_endless}
use Rattle.desk_page.proofs.scene.travel_on.Goals as goal

pub loop-count-init : goal.loop-count-init
loop-count-init c = (none, c.requires.durable, c.requires.usable)

pub loop-count-preserved : goal.loop-count-preserved
loop-count-preserved c =
    let done = c.in_ok-travel.ensures.done tt c.loop-count.invariant.1 in (
      one_more c.loop-count.invariant.0 (asked_for _ c.is_none.result c.is_none.ensures c.if-is_none.false) done,
      done.durable,
      c.in_ok-travel.ensures.usable,
    )

pub returns-in_err-travel-clause-endless : goal.returns-in_err-travel-clause-endless
returns-in_err-travel-clause-endless c =
    let p = err_from_is_err_and c.from_residual.result c.from_residual.ensures.1 in
    no_endless c.from_residual.result c.in_err-travel.field-0.0 (p.1 ∙ ap (λ e. Err e) p.2) c.in_err-travel.ensures.faults.errors

pub returns-clause-endless : goal.returns-clause-endless
returns-clause-endless c = λ _.
    let most : c.loop-count._count ≡ MOST_TURNS = omega arith in
    (c.loop-count._count, most, c.loop-count.invariant.0)
