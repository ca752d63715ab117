use Rattle.std.proofs.Common.{◌≡◌, ◌∙◌, ap, arith, inl, refl, sym}
use Rattle.std.specs.Prelude.{Err}
use Rattle.std.proofs.lemmas.Result.{err_from_is_err_and, IfErr-at_err}
use Rattle.sector_disk.specs.Trail.{now}
use Rattle.past_pages.proofs.Told.{ok_of, shown_as}
use Rattle.desk_past.specs.Errors.{OfDoing, OfFound}
use Rattle.desk_past.proofs.InMemory.{stop_at, stop_from}
use Rattle.desk_past.proofs.Opened.{undone_to}
use Rattle.desk_past.proofs.again.back_to.Goals as goal

pub returns-then-count-info-clause-is_one : goal.returns-then-count-info-clause-is_one
returns-then-count-info-clause-is_one g c = λ t shown low.
    let is = shown_as (now (g.E.Disk.trail c.args.shown.disk)) t c.standing_law.ensures
    (c.info.ensures.durable shown.usable shown.honest) shown.shows in
    let told = ap (λ x. x.events) (ap (ok_of c.in-Ok.info) (sym c.in-Ok.is ∙ c.info.ensures.value shown.usable)) in
    omega (arith, c.if-count-info.true, told, is.events, low)

pub returns-clause-is_one : goal.returns-clause-is_one
returns-clause-is_one g c = λ t shown low.
    let is = shown_as (now (g.E.Disk.trail c.args.shown.disk)) t c.standing_law.ensures
    (c.info.ensures.durable shown.usable shown.honest) shown.shows in
    let told = ap (λ x. x.events) (ap (ok_of c.in-Ok.info) (sym c.in-Ok.is ∙ c.info.ensures.value shown.usable)) in
    undone_to g.E.Disk c.standing_law.ensures t shown (c.shows_what_crashes_leave.ensures.durable shown.usable)
    c.args.count _ c.in_ok-taken_back.ensures.ok (omega (arith, told, is.events, low)) low

pub returns-clause-there : goal.returns-clause-there
returns-clause-there g c = λ t shown.
    let is = shown_as (now (g.E.Disk.trail c.args.shown.disk)) t c.standing_law.ensures
    (c.info.ensures.durable shown.usable shown.honest) shown.shows in
    let told = ap (λ x. x.events) (ap (ok_of c.in-Ok.info) (sym c.in-Ok.is ∙ c.info.ensures.value shown.usable)) in
    omega (arith, c.if-count-info.false, told, is.events)

pub returns-in_err-taken_back-clause-errors : goal.returns-in_err-taken_back-clause-errors
returns-in_err-taken_back-clause-errors g c =
    let p = err_from_is_err_and c.from_residual.result c.from_residual.ensures.1 in
    let failed : c.taken_back.result ≡ Err p.0 = cc (p.1, p.2, c.in_err-taken_back.was) in
    stop_at OfFound (IfErr-at_err OfFound failed c.taken_back.ensures.errors) p.1

pub returns-in_err-taken_back-clause-stops : goal.returns-in_err-taken_back-clause-stops
returns-in_err-taken_back-clause-stops g c =
    let p = err_from_is_err_and c.from_residual.result c.from_residual.ensures.1 in
    let failed : c.taken_back.result ≡ Err p.0 = cc (p.1, p.2, c.in_err-taken_back.was) in
    stop_at _ (λ t shown. IfErr-at_err OfDoing failed (c.taken_back.ensures.stops shown.honest)) p.1
