use Rattle.std.proofs.Common.{◌≡◌, ◌∙◌, refl, sym}
use Rattle.std.specs.Prelude.{Err}
use Rattle.std.proofs.lemmas.Result.{err_from_is_err_and, IfErr-at_err}
use Rattle.past_pages.proofs.Failing.{closed_of, error_from, none_failed}
use Rattle.desk_past.specs.Errors.{OfDoing, OfLaying}
use Rattle.desk_past.proofs.InMemory.{calm_from, doing_no_fault, laying_no_reopen, laying_of_doing}
use Rattle.desk_past.proofs.InMemory.{moment_of_doing, moment_of_laying}
use Rattle.desk_past.proofs.reading.start_of.Goals as goal

pub returns-then-is_err-clause-open : goal.returns-then-is_err-clause-open
returns-then-is_err-clause-open g c = λ is. closed_of c.args.store.now.must_reopen c.info.result c.info.ensures.value
    (sym c.is_err.ensures.value ∙ c.if-is_err.true)

pub returns-in_err-shown-clause-faults : goal.returns-in_err-shown-clause-faults
returns-in_err-shown-clause-faults g c =
    let p = err_from_is_err_and c.from_residual-in_err-shown.result c.from_residual-in_err-shown.ensures.1 in
    let failed : c.opened_at.result ≡ Err p.0 = cc (p.1, p.2, c.in_err-shown.was) in
    error_from c.opened_at.ensures.faults moment_of_laying refl failed p.1

pub returns-in_err-shown-clause-open : goal.returns-in_err-shown-clause-open
returns-in_err-shown-clause-open g c =
    let p = err_from_is_err_and c.from_residual-in_err-shown.result c.from_residual-in_err-shown.ensures.1 in
    let failed : c.opened_at.result ≡ Err p.0 = cc (p.1, p.2, c.in_err-shown.was) in
    λ is. absurd (laying_no_reopen p.0 (IfErr-at_err OfLaying failed c.opened_at.ensures.faults.errors) (cc (p.1, is)))

pub returns-in_err-many_before-clause-faults : goal.returns-in_err-many_before-clause-faults
returns-in_err-many_before-clause-faults g c =
    let p = err_from_is_err_and c.from_residual-in_err-many_before.result
    c.from_residual-in_err-many_before.ensures.1 in
    let failed : c.many_before.result ≡ Err p.0 = cc (p.1, p.2, c.in_err-many_before.was) in
    calm_from c.many_before.ensures.errors moment_of_doing doing_no_fault (none_failed c.in_ok-shown.ensures.faults)
    failed p.1

pub returns-in_err-many_before-clause-open : goal.returns-in_err-many_before-clause-open
returns-in_err-many_before-clause-open g c =
    let p = err_from_is_err_and c.from_residual-in_err-many_before.result
    c.from_residual-in_err-many_before.ensures.1 in
    let failed : c.many_before.result ≡ Err p.0 = cc (p.1, p.2, c.in_err-many_before.was) in
    λ is. absurd (laying_no_reopen p.0 (laying_of_doing p.0 (IfErr-at_err OfDoing failed c.many_before.ensures.errors))
    (cc (p.1, is)))
