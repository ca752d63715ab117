use Rattle.std.proofs.Common.{◌≡◌, ◌∙◌, arith, refl}
use Rattle.std.specs.Prelude.{Err}
use Rattle.std.proofs.lemmas.Result.{err_from_is_err_and}
use Rattle.past_pages.proofs.Failing.{none_failed}
use Rattle.past_pages.proofs.StillReads.{still_both}
use Rattle.desk_past.proofs.Opened.{start_room}
use Rattle.told_pasts.proofs.Reached.{has_reach, reach_behind}
use Rattle.told_pasts.proofs.Stops.{stops_first, stops_later, stops_none}
use Rattle.told_pasts.proofs.telling.told_past.Goals as goal

pub returns-in_err-reach-clause-stops : goal.returns-in_err-reach-clause-stops
returns-in_err-reach-clause-stops g c =
    let p = err_from_is_err_and c.from_residual.result c.from_residual.ensures.1 in
    let failed : c.reach_of.result ≡ Err p.0 = cc (p.2, c.in_err-reach.was) in
    stops_first g.D.Disk c.reach_of.ensures.stops (λ known. known.0.keeps.usable) failed p.1

pub returns-in_default-clause-told : goal.returns-in_default-clause-told
returns-in_default-clause-told g c = λ honest start deeds desktop keeps lies.
    absurd ((rw c.in_default.is at c.in_ok-reach.ensures.told) honest start deeds desktop keeps lies)

pub returns-in_default-clause-stops : goal.returns-in_default-clause-stops
returns-in_default-clause-stops g c = stops_none g.D.Disk (none_failed c.in_ok-reach.ensures.stops.faults)

pub returns-in_default-first_of-clause-told : goal.returns-in_default-first_of-clause-told
returns-in_default-first_of-clause-told g c = λ honest start deeds desktop keeps lies.
    let told = (rw c.in-Some.is at c.in_ok-reach.ensures.told) honest start deeds desktop keeps lies in
    let room = start_room g.D.Disk keeps start.base refl in
    let low = rw c.in_default-first_of.is at c.first_of.ensures.none in
    absurd (omega (arith, low, room, told.base, told.next))

pub returns-in_default-first_of-clause-stops : goal.returns-in_default-first_of-clause-stops
returns-in_default-first_of-clause-stops g c = stops_none g.D.Disk (none_failed c.in_ok-reach.ensures.stops.faults)

pub returns-in_err-shown-clause-stops : goal.returns-in_err-shown-clause-stops
returns-in_err-shown-clause-stops g c =
    let p = err_from_is_err_and c.from_residual-in_err-shown.result c.from_residual-in_err-shown.ensures.1 in
    let failed : c.start_of.result ≡ Err p.0 = cc (p.2, c.in_err-shown.was) in
    let one = c.in_ok-reach.ensures.still in
    stops_later g.D.Disk one.usable (none_failed c.in_ok-reach.ensures.stops.faults) c.start_of.ensures.stops (λ known.
    let past = known.0 in
    let told = (rw c.in-Some.is at c.in_ok-reach.ensures.told) past.honest past.start past.deeds past.desktop past.keeps
    known.1 in (
      reach_behind g.D.Disk one c.shows_what_crashes_leave.ensures.quiet c.standing_law.ensures
          (has_reach g.D.Disk past told c.in-Some-first_of.ensures.at),
      refl,
    )) failed p.1

pub returns-in_default-2-clause-told : goal.returns-in_default-2-clause-told
returns-in_default-2-clause-told g c = λ honest start deeds desktop keeps lies.
    let told = (rw c.in-Some.is at c.in_ok-reach.ensures.told) honest start deeds desktop keeps lies in
    absurd ((rw c.in_default-2.is at c.in_ok-shown.ensures.is)
    (reach_behind g.D.Disk c.in_ok-reach.ensures.still c.shows_what_crashes_leave.ensures.quiet c.standing_law.ensures
    (has_reach g.D.Disk (record { start = start; deeds = deeds; desktop = desktop; keeps = keeps; honest = honest })
    told
    c.in-Some-first_of.ensures.at)) refl)

pub returns-in_default-2-clause-still : goal.returns-in_default-2-clause-still
returns-in_default-2-clause-still g c = still_both g.D.Disk c.in_ok-reach.ensures.still c.in_ok-shown.ensures.still

pub returns-in_default-2-clause-stops : goal.returns-in_default-2-clause-stops
returns-in_default-2-clause-stops g c = stops_none g.D.Disk
    (none_failed c.in_ok-shown.ensures.stops.faults ∙ none_failed c.in_ok-reach.ensures.stops.faults)

pub returns-in_err-lines-clause-stops : goal.returns-in_err-lines-clause-stops
returns-in_err-lines-clause-stops g c =
    let p = err_from_is_err_and c.from_residual-in_err-lines.result c.from_residual-in_err-lines.ensures.1 in
    let failed : c.tell_all.result ≡ Err p.0 = cc (p.2, c.in_err-lines.was) in
    let d = g.D.Disk in
    let quiet = c.shows_what_crashes_leave.ensures.quiet in
    let one = c.in_ok-reach.ensures.still in
    let two = still_both d one c.in_ok-shown.ensures.still in
    stops_later d two.usable
    (none_failed c.in_ok-shown.ensures.stops.faults ∙ none_failed c.in_ok-reach.ensures.stops.faults)
    c.tell_all.ensures.stops (λ known.
    let past = known.0 in
    let told = (rw c.in-Some.is at c.in_ok-reach.ensures.told) past.honest past.start past.deeds past.desktop past.keeps
    known.1 in
    let has = has_reach d past told c.in-Some-first_of.ensures.at in (
      reach_behind d two quiet c.standing_law.ensures has,
      (rw c.in-Some-2.is at c.in_ok-shown.ensures.is) (reach_behind d one quiet c.standing_law.ensures has) refl,
    )) failed p.1

pub returns-clause-told : goal.returns-clause-told
returns-clause-told g c = λ honest start deeds desktop keeps lies.
    let d = g.D.Disk in
    let quiet = c.shows_what_crashes_leave.ensures.quiet in
    let told = (rw c.in-Some.is at c.in_ok-reach.ensures.told) honest start deeds desktop keeps lies in
    let one = c.in_ok-reach.ensures.still in
    let two = still_both d one c.in_ok-shown.ensures.still in
    let has = has_reach d
    (record { start = start; deeds = deeds; desktop = desktop; keeps = keeps; honest = honest }) told
    c.in-Some-first_of.ensures.at in
    c.in_ok-lines.ensures.told (reach_behind d two quiet c.standing_law.ensures has)
    ((rw c.in-Some-2.is at c.in_ok-shown.ensures.is) (reach_behind d one quiet c.standing_law.ensures has) refl)

pub returns-clause-still : goal.returns-clause-still
returns-clause-still g c = still_both g.D.Disk
    (still_both g.D.Disk c.in_ok-reach.ensures.still c.in_ok-shown.ensures.still) c.in_ok-lines.ensures.still

pub returns-clause-stops : goal.returns-clause-stops
returns-clause-stops g c = stops_none g.D.Disk
    (none_failed c.in_ok-lines.ensures.stops.faults ∙ none_failed c.in_ok-shown.ensures.stops.faults
    ∙ none_failed c.in_ok-reach.ensures.stops.faults)
