use Rattle.std.proofs.Common.{◌≡◌, arith, refl, subst, sym}
use Rattle.std.specs.Prelude.{Err}
use Rattle.std.proofs.lemmas.Result.{err_from_is_err_and}
use Rattle.sector_disk.specs.Trail.{now}
use Rattle.past_pages.specs.Reading.{HasCopy}
use Rattle.past_pages.proofs.Failing.{none_failed}
use Rattle.told_pasts.proofs.Replayed.{desktop_told}
use Rattle.told_pasts.proofs.Stops.{looks_stop, stops_first, stops_memory, stops_missing, stops_none}
use Rattle.told_pasts.proofs.replay.add_far_turn.Goals as goal

pub returns-in_err-push_turn-clause-stops : goal.returns-in_err-push_turn-clause-stops
returns-in_err-push_turn-clause-stops g c =
    let p = err_from_is_err_and c.from_residual.result c.from_residual.ensures.1 in
    stops_memory g.D.Disk p.2 refl p.1

pub returns-in_err-shown-clause-stops : goal.returns-in_err-shown-clause-stops
returns-in_err-shown-clause-stops g c =
    let p = err_from_is_err_and c.from_residual-in_err-shown.result c.from_residual-in_err-shown.ensures.1 in
    let failed : c.copy_in.result ≡ Err p.0 = cc (p.2, c.in_err-shown.was) in
    stops_first g.D.Disk (looks_stop g.D.Disk c.copy_in.result c.copy_in.ensures.looks) (λ h. c.requires) failed p.1

pub returns-in_default-clause-stops : goal.returns-in_default-clause-stops
returns-in_default-clause-stops g c =
    let d = g.D.Disk in
    stops_missing d (none_failed c.in_ok-shown.ensures.looks.faults) (λ h.
    (rw c.in_default.is at c.in_ok-shown.ensures.found) h.honest h.to
    (subst (λ n. HasCopy (now (d.trail c.args.store.now.disk)).reads c.args.at n h.to) (sym c.sectors-end.ensures)
    h.there)
    (omega (arith, c.sectors-end.ensures)))

pub returns-clause-told : goal.returns-clause-told
returns-clause-told g c = λ h start deeds here.
    let d = g.D.Disk in
    desktop_told ((rw c.in-Some.is at c.in_ok-shown.ensures.found) h.honest h.to
    (subst (λ n. HasCopy (now (d.trail c.args.store.now.disk)).reads c.args.at n h.to) (sym c.sectors-end.ensures)
    h.there)
    (omega (arith, c.sectors-end.ensures))) refl c.in_ok-push_turn.ensures

pub returns-clause-stops : goal.returns-clause-stops
returns-clause-stops g c = stops_none g.D.Disk (none_failed c.in_ok-shown.ensures.looks.faults)
