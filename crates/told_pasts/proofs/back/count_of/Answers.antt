use Rattle.std.proofs.Common.{◌≡◌}
use Rattle.std.specs.Prelude.{Err}
use Rattle.std.proofs.lemmas.Result.{err_from_is_err_and}
use Rattle.past_pages.proofs.Failing.{none_failed}
use Rattle.told_pasts.proofs.Stops.{stops_first, stops_missing, stops_none}
use Rattle.told_pasts.proofs.back.count_of.Goals as goal

pub returns-in_err-count-clause-stops : goal.returns-in_err-count-clause-stops
returns-in_err-count-clause-stops g c =
    let p = err_from_is_err_and c.from_residual.result c.from_residual.ensures.1 in
    let failed : c.counted_pages.result ≡ Err p.0 = cc (p.2, c.in_err-count.was) in
    stops_first g.D.Disk c.counted_pages.ensures.stops (λ some. some.usable) failed p.1

pub returns-in-Whole-clause-stops : goal.returns-in-Whole-clause-stops
returns-in-Whole-clause-stops g c = stops_none g.D.Disk (none_failed c.in_ok-count.ensures.stops.faults)

pub returns-in-Missing-clause-stops : goal.returns-in-Missing-clause-stops
returns-in-Missing-clause-stops g c = stops_missing g.D.Disk (none_failed c.in_ok-count.ensures.stops.faults)
    (λ some. let there = c.in_ok-count.ensures.whole some.honest some.pages some.written some.good some.up_to
    some.room some.few in
    let wrong : ⊥ = cc (there, c.in-Missing.is) in wrong)
