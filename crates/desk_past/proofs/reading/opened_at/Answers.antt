use Rattle.std.proofs.Common.{◌≡◌, ◌+◌, ◌≤◌, ◌∙◌, ap, arith, refl}
use Rattle.std.proofs.lemmas.Result.{err_from_is_err_and, IfErr-weaker}
use Rattle.std.specs.Prelude.{Err}
use Rattle.sector_disk.specs.Trail.{now}
use Rattle.past_pages.proofs.Failing.{calm_answer, error_from, none_failed}
use Rattle.desk_past.proofs.Found.{both_weaker}
use Rattle.desk_past.proofs.InMemory.{found_no_fault, laying_of_found, laying_of_reads}
use Rattle.desk_past.proofs.InMemory.{steps_of_doing, steps_of_reads, stop_from}
use Rattle.desk_past.proofs.Opened.{stands_shows}
use Rattle.desk_past.proofs.reading.opened_at.Goals as goal

pub returns-in_err-lay-clause-faults : goal.returns-in_err-lay-clause-faults
returns-in_err-lay-clause-faults g c =
    let p = err_from_is_err_and c.from_residual.result c.from_residual.ensures.1 in
    let failed : c.lay.result ≡ Err p.0 = cc (p.1, p.2, c.in_err-lay.was) in
    error_from c.lay.ensures.faults laying_of_reads refl failed p.1

pub returns-in_err-lay-clause-stops : goal.returns-in_err-lay-clause-stops
returns-in_err-lay-clause-stops g c =
    let p = err_from_is_err_and c.from_residual.result c.from_residual.ensures.1 in
    let failed : c.lay.result ≡ Err p.0 = cc (p.1, p.2, c.in_err-lay.was) in
    stop_from c.lay.ensures.faults.errors (λ e named honest other t at. steps_of_reads e named) failed p.1

pub returns-clause-shown : goal.returns-clause-shown
returns-clause-shown g c = both_weaker c.opened.result c.opened.ensures.ok c.opened.ensures.untouched
    (λ shown ok untouched honest other t at. stands_shows g.E.Disk c.standing_law.ensures t
    (c.in_ok-lay.ensures.stands honest other t at) (c.lay.ensures.device.still other) ok untouched)

pub returns-clause-faults : goal.returns-clause-faults
returns-clause-faults g c = calm_answer c.opened.result c.opened.ensures.errors laying_of_found found_no_fault
    (none_failed c.in_ok-lay.ensures.faults)

pub returns-clause-stops : goal.returns-clause-stops
returns-clause-stops g c = IfErr-weaker c.opened.result _ _ (λ e stops honest other t at.
    steps_of_doing e (stops (c.lay.ensures.device.still other) t (c.in_ok-lay.ensures.stands honest other t at)))
    c.opened.ensures.stops
