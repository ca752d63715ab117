use Rattle.std.proofs.Common.{◌≡◌}
use Rattle.std.specs.Prelude.{Err}
use Rattle.std.proofs.lemmas.Result.{err_from_is_err_and}
use Rattle.past_pages.proofs.Failing.{none_failed}
use Rattle.told_pasts.proofs.Stops.{stops_first, stops_none}
use Rattle.told_pasts.proofs.replay.add_page.Goals as goal

pub returns-in_err-add_deeds-clause-stops : goal.returns-in_err-add_deeds-clause-stops
returns-in_err-add_deeds-clause-stops g c =
    let p = err_from_is_err_and c.from_residual.result c.from_residual.ensures.1 in
    let failed : c.add_deeds.result ≡ Err p.0 = cc (p.2, c.in_err-add_deeds.was) in
    stops_first g.D.Disk c.add_deeds.ensures.stops (λ a. a) failed p.1

pub returns-clause-stops : goal.returns-clause-stops
returns-clause-stops g c = stops_none g.D.Disk (none_failed c.in_ok-add_deeds.ensures.stops.faults)
