use Rattle.std.proofs.Common.{◌≡◌, ◌∙◌, refl, sym}
use Rattle.std.specs.Prelude.{Err}
use Rattle.std.proofs.lemmas.Bool.{false≢true}
use Rattle.std.proofs.lemmas.Result.{err_from_is_err_and, IfErr-weaker, IfOk-weaker}
use Rattle.past_pages.proofs.Failing.{error_from, none_failed}
use Rattle.desk_past.proofs.Former.{calm_on}
use Rattle.desk_past.proofs.InMemory.{back_no_fault, laying_of_back, steps_of_doing, stop_from}
use Rattle.desk_past.proofs.Opened.{if_some_always}
use Rattle.desk_past.proofs.reading.before_start.Goals as goal

pub returns-then-not-asked-clause-is_one : goal.returns-then-not-asked-clause-is_one
returns-then-not-asked-clause-is_one g c = λ honest other t at asked low high.
    absurd (false≢true (sym c.if-not-asked.true ∙ asked))

pub returns-in_err-shown-clause-faults : goal.returns-in_err-shown-clause-faults
returns-in_err-shown-clause-faults g c =
    let p = err_from_is_err_and c.from_residual.result c.from_residual.ensures.1 in
    let failed : c.opened_at.result ≡ Err p.0 = cc (p.1, p.2, c.in_err-shown.was) in
    error_from c.opened_at.ensures.faults (λ e named. named) refl failed p.1

pub returns-in_err-shown-clause-stops : goal.returns-in_err-shown-clause-stops
returns-in_err-shown-clause-stops g c =
    let p = err_from_is_err_and c.from_residual.result c.from_residual.ensures.1 in
    let failed : c.opened_at.result ≡ Err p.0 = cc (p.1, p.2, c.in_err-shown.was) in
    stop_from c.opened_at.ensures.stops (λ e stops. stops) failed p.1

pub returns-clause-is_one : goal.returns-clause-is_one
returns-clause-is_one g c = IfOk-weaker c.in_start.result _ _ (λ found fact honest other t at asked low high.
    fact t (c.in_ok-shown.ensures.shown honest other t at) low high) c.in_start.ensures.is_one

pub returns-clause-there : goal.returns-clause-there
returns-clause-there g c = IfOk-weaker c.in_start.result _ _
    (λ found fact. if_some_always found (λ back. c.if-not-asked.false))
    c.in_start.ensures.is_one

pub returns-clause-faults : goal.returns-clause-faults
returns-clause-faults g c = calm_on c.in_start.result c.in_start.ensures.errors laying_of_back back_no_fault
    (none_failed c.in_ok-shown.ensures.faults)

pub returns-clause-stops : goal.returns-clause-stops
returns-clause-stops g c = IfErr-weaker c.in_start.result _ _ (λ e stops honest other t at.
    steps_of_doing e (stops t (c.in_ok-shown.ensures.shown honest other t at))) c.in_start.ensures.stops
