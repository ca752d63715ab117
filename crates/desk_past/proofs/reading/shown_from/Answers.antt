use Rattle.std.proofs.Common.{◌≡◌, ◌∙◌, refl, subst, sym}
use Rattle.std.specs.Prelude.{Err}
use Rattle.std.proofs.lemmas.Result.{err_from_is_err_and}
use Rattle.past_pages.proofs.Failing.{error_from}
use Rattle.desk_past.proofs.Gone.{start_shown, start_stands}
use Rattle.desk_past.proofs.InMemory.{laying_of_reads, steps_of_reads, stop_from}
use Rattle.desk_past.proofs.reading.shown_from.Goals as goal

pub returns-in_ok-opened_at-in-AtStart-clause-shown : goal.returns-in_ok-opened_at-in-AtStart-clause-shown
returns-in_ok-opened_at-in-AtStart-clause-shown g c = λ honest other start has is was begins.
    start_shown g.E.Disk has (rw c.in-AtStart.is at begins)
    (c.in_ok-opened_at-in-AtStart.ensures.shown honest other has.standing (start_stands has c.args.base is))

pub returns-in_err-opened_at-in-AtStart-clause-stops : goal.returns-in_err-opened_at-in-AtStart-clause-stops
returns-in_err-opened_at-in-AtStart-clause-stops g c =
    let p = err_from_is_err_and c.from_residual.result c.from_residual.ensures.1 in
    let failed : c.opened_at.result ≡ Err p.0 = cc (p.1, p.2, c.in_err-opened_at-in-AtStart.was) in
    stop_from c.opened_at.ensures.stops (λ e stops honest other start has is. stops honest other has.standing
    (start_stands has c.args.base is)) failed p.1

pub returns-in_err-opened_at-in-AtStart-clause-faults : goal.returns-in_err-opened_at-in-AtStart-clause-faults
returns-in_err-opened_at-in-AtStart-clause-faults g c =
    let p = err_from_is_err_and c.from_residual.result c.from_residual.ensures.1 in
    let failed : c.opened_at.result ≡ Err p.0 = cc (p.1, p.2, c.in_err-opened_at-in-AtStart.was) in
    error_from c.opened_at.ensures.faults (λ e named. named) refl failed p.1

pub returns-in_ok-copy_at-in-AtCopy-clause-shown : goal.returns-in_ok-copy_at-in-AtCopy-clause-shown
returns-in_ok-copy_at-in-AtCopy-clause-shown g c = λ honest other start has is was begins.
    c.in_ok-copy_at-in-AtCopy.ensures.shown honest other was (rw c.in-AtCopy.is at begins)

pub returns-in_err-copy_at-in-AtCopy-clause-stops : goal.returns-in_err-copy_at-in-AtCopy-clause-stops
returns-in_err-copy_at-in-AtCopy-clause-stops g c =
    let p = err_from_is_err_and c.from_residual-in_err-copy_at-in-AtCopy.result
    c.from_residual-in_err-copy_at-in-AtCopy.ensures.1 in
    let failed : c.copy_at.result ≡ Err p.0 = cc (p.1, p.2, c.in_err-copy_at-in-AtCopy.was) in
    stop_from c.copy_at.ensures.faults.errors (λ e named honest other start has is. steps_of_reads e named) failed p.1

pub returns-in_err-copy_at-in-AtCopy-clause-faults : goal.returns-in_err-copy_at-in-AtCopy-clause-faults
returns-in_err-copy_at-in-AtCopy-clause-faults g c =
    let p = err_from_is_err_and c.from_residual-in_err-copy_at-in-AtCopy.result
    c.from_residual-in_err-copy_at-in-AtCopy.ensures.1 in
    let failed : c.copy_at.result ≡ Err p.0 = cc (p.1, p.2, c.in_err-copy_at-in-AtCopy.was) in
    error_from c.copy_at.ensures.faults laying_of_reads refl failed p.1

pub returns-in-AtMoment-clause-shown : goal.returns-in-AtMoment-clause-shown
returns-in-AtMoment-clause-shown g c = λ honest other start has is was begins. (rw c.in-AtMoment.is at begins)
