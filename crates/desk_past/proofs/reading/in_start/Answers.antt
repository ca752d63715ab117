use Rattle.std.proofs.Common.{◌≡◌, ◌+◌, ◌-◌, ◌∙◌, ap, arith, inl, inr, length, take}
use Rattle.std.specs.Prelude.{Err}
use Rattle.std.proofs.lemmas.Result.{err_from_is_err_and, IfErr-weaker, IfOk-weaker}
use Rattle.desktop_definitions.specs.Step.{steps_in}
use Rattle.desk_past.proofs.InMemory.{stop_from}
use Rattle.desk_past.proofs.Opened.{some_then}
use Rattle.desk_past.proofs.reading.in_start.Goals as goal

pub returns-then-k-told-clause-is_one : goal.returns-then-k-told-clause-is_one
returns-then-k-told-clause-is_one g c = λ t shown low high.
    let told = ap (λ p. p.before) (c.in_ok-told.ensures.told t shown) in
    absurd (omega (arith, told, low, c.if-k-told.true))

pub returns-clause-is_one : goal.returns-clause-is_one
returns-clause-is_one g c = IfOk-weaker c.back_to.result _ _ (λ found fact t shown low high.
    let told = ap (λ p. p.before) (c.in_ok-told.ensures.told t shown) in
    some_then found (fact t (c.told_in.ensures.still t shown) (omega (arith, told, low, high)))
    (λ back eq. eq ∙ ap (λ n. steps_in t.version t.start (take (c.args.k - n) t.events)) told)) c.back_to.ensures.is_one

pub returns-in_err-told-clause-errors : goal.returns-in_err-told-clause-errors
returns-in_err-told-clause-errors g c =
    let p = err_from_is_err_and c.from_residual.result c.from_residual.ensures.1 in
    let failed : c.told_in.result ≡ Err p.0 = cc (p.1, p.2, c.in_err-told.was) in
    stop_from c.told_in.ensures.errors (λ e named. inl named) failed p.1

pub returns-in_err-told-clause-stops : goal.returns-in_err-told-clause-stops
returns-in_err-told-clause-stops g c =
    let p = err_from_is_err_and c.from_residual.result c.from_residual.ensures.1 in
    let failed : c.told_in.result ≡ Err p.0 = cc (p.1, p.2, c.in_err-told.was) in
    stop_from c.told_in.ensures.errors (λ e named t shown. named) failed p.1

pub returns-clause-stops : goal.returns-clause-stops
returns-clause-stops g c = IfErr-weaker c.back_to.result _ _
    (λ e stops t shown. stops t (c.told_in.ensures.still t shown))
    c.back_to.ensures.stops

pub returns-clause-errors : goal.returns-clause-errors
returns-clause-errors g c = IfErr-weaker c.back_to.result _ _ (λ e found. inr found) c.back_to.ensures.errors
