use Rattle.std.proofs.Common.{◌≡◌, ◌∙◌, refl, sym}
use Rattle.std.specs.Prelude.{Err}
use Rattle.std.proofs.lemmas.Result.{err_from_is_err_and}
use Rattle.past_pages.proofs.Failing.{none_failed}
use Rattle.past_pages.proofs.StillReads.{still_none}
use Rattle.told_pasts.proofs.Replayed.{none_due, turn_due}
use Rattle.told_pasts.proofs.Stops.{moment_stops, stops_first, stops_missing, stops_none}
use Rattle.told_pasts.proofs.replay.turn_if_due.Goals as goal

pub returns-in_default-clause-shown : goal.returns-in_default-clause-shown
returns-in_default-clause-shown g c = λ a. none_due g.D.Disk a c.in_default.is

pub returns-in_default-clause-still : goal.returns-in_default-clause-still
returns-in_default-clause-still g c = still_none g.D.Disk c.args.store.now c.requires

pub returns-in_default-clause-stops : goal.returns-in_default-clause-stops
returns-in_default-clause-stops g c = stops_none g.D.Disk refl

pub returns-in_err-shown-clause-stops : goal.returns-in_err-shown-clause-stops
returns-in_err-shown-clause-stops g c =
    let p = err_from_is_err_and c.from_residual.result c.from_residual.ensures.1 in
    let failed : c.moment.result ≡ Err p.0 = cc (p.2, c.in_err-shown.was) in
    stops_first g.D.Disk
    (moment_stops g.D.Disk c.moment.result c.moment.ensures.faults c.moment.ensures.open c.moment.ensures.stops)
    (λ a. (a.past, a.at)) failed p.1

pub returns-in_default-2-clause-stops : goal.returns-in_default-2-clause-stops
returns-in_default-2-clause-stops g c = stops_missing g.D.Disk (none_failed c.in_ok-shown.ensures.faults) (λ a.
    (rw c.in_default-2.is at c.in_ok-shown.ensures.comes_back) a.past.honest a.past.start a.past.deeds a.past.desktop
    a.past.keeps a.at (turn_due g.D.Disk a c.in-Some.is).0)

pub returns-clause-shown : goal.returns-clause-shown
returns-clause-shown g c = λ a.
    let due = turn_due g.D.Disk a c.in-Some.is in
    (rw c.in-Some-2.is at c.in_ok-shown.ensures.comes_back) a.past.honest a.past.start a.past.deeds a.past.desktop
    a.past.keeps a.at due.0 ∙ sym due.1

pub returns-clause-stops : goal.returns-clause-stops
returns-clause-stops g c = stops_none g.D.Disk (none_failed c.in_ok-shown.ensures.faults)
