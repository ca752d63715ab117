use Rattle.std.proofs.Common.{◌≡◌, ◌+◌, ◌∙◌, ap, arith, length, refl, sym}
use Rattle.std.specs.Prelude.{Err}
use Rattle.std.proofs.lemmas.Result.{err_from_is_err_and, IfErr-at_err}
use Rattle.sector_disk.specs.Trail.{now}
use Rattle.past_pages.proofs.Failing.{error_from, none_failed}
use Rattle.past_pages.proofs.Told.{ok_of, shown_as}
use Rattle.desk_past.specs.Errors.{OfDoing}
use Rattle.desk_past.proofs.InMemory.{calm_from, found_no_fault, laying_of_found, steps_of_doing, stop_at, stop_from}
use Rattle.desk_past.proofs.Opened.{stands_first, undone_to}
use Rattle.desk_past.proofs.reading.in_journal.Goals.{then-count-info-via-then-count-info, then-count-info-via-else-count-info+then-sectors-lt-STORE_SECTORS}
use Rattle.desk_past.proofs.reading.in_journal.Goals as goal

pub returns-in_err-info-clause-faults : goal.returns-in_err-info-clause-faults
returns-in_err-info-clause-faults g c =
    let p = err_from_is_err_and c.from_residual.result c.from_residual.ensures.1 in
    let failed : c.info.result ≡ Err p.0 = cc (p.1, p.2, c.in_err-info.was) in
    absurd (let wrong : ⊥ = cc (failed, c.info.ensures.value c.requires.usable) in wrong)

pub returns-in_err-info-clause-stops : goal.returns-in_err-info-clause-stops
returns-in_err-info-clause-stops g c =
    let p = err_from_is_err_and c.from_residual.result c.from_residual.ensures.1 in
    let failed : c.info.result ≡ Err p.0 = cc (p.1, p.2, c.in_err-info.was) in
    absurd (let wrong : ⊥ = cc (failed, c.info.ensures.value c.requires.usable) in wrong)

pub returns-in_err-shown-clause-faults : goal.returns-in_err-shown-clause-faults
returns-in_err-shown-clause-faults g c =
    let p = err_from_is_err_and c.from_residual-in_err-shown.result c.from_residual-in_err-shown.ensures.1 in
    let failed : c.opened_at.result ≡ Err p.0 = cc (p.1, p.2, c.in_err-shown.was) in
    error_from c.opened_at.ensures.faults (λ e named. named) refl failed p.1

pub returns-in_err-shown-clause-stops : goal.returns-in_err-shown-clause-stops
returns-in_err-shown-clause-stops g c =
    let p = err_from_is_err_and c.from_residual-in_err-shown.result c.from_residual-in_err-shown.ensures.1 in
    let failed : c.opened_at.result ≡ Err p.0 = cc (p.1, p.2, c.in_err-shown.was) in
    stop_from c.opened_at.ensures.stops (λ e stops honest other s at. stops honest other s
    (stands_first (now (g.D.Disk.trail c.args.store.now.disk)).reads s at)) failed p.1

pub returns-in_err-taken_back-clause-faults : goal.returns-in_err-taken_back-clause-faults
returns-in_err-taken_back-clause-faults g c =
    let p = err_from_is_err_and c.from_residual-in_err-taken_back.result c.from_residual-in_err-taken_back.ensures.1 in
    let failed : c.taken_back.result ≡ Err p.0 = cc (p.1, p.2, c.in_err-taken_back.was) in
    calm_from c.taken_back.ensures.errors laying_of_found found_no_fault (none_failed c.in_ok-shown.ensures.faults)
    failed p.1

pub returns-in_err-taken_back-clause-stops : goal.returns-in_err-taken_back-clause-stops
returns-in_err-taken_back-clause-stops g c =
    let p = err_from_is_err_and c.from_residual-in_err-taken_back.result c.from_residual-in_err-taken_back.ensures.1 in
    let failed : c.taken_back.result ≡ Err p.0 = cc (p.1, p.2, c.in_err-taken_back.was) in
    stop_at _ (λ honest other s at. steps_of_doing p.0 (IfErr-at_err OfDoing failed (c.taken_back.ensures.stops
    (c.in_ok-shown.ensures.shown honest other s
    (stands_first (now (g.D.Disk.trail c.args.store.now.disk)).reads s at)).honest))) p.1

pub returns-then-count-info-clause-is_one : goal.returns-then-count-info-clause-is_one
returns-then-count-info-clause-is_one g c = λ honest other s at low.
    let usable = c.requires.usable in
    let is = shown_as (now (g.D.Disk.trail c.args.store.now.disk)) s c.standing_law.ensures
    (c.info.ensures.durable usable honest) at in
    let told = ap (λ x. x.events) (ap (ok_of c.in_ok-info.info) (sym c.in_ok-info.was ∙ c.info.ensures.value usable)) in
    elim c.then-count-info.branch [
      | then-count-info-via-then-count-info w ↦ omega (arith, w.if-count-info.true, told, is.events, low)
      | then-count-info-via-else-count-info+then-sectors-lt-STORE_SECTORS w ↦
          omega (arith, w.if-sectors-lt-STORE_SECTORS.true, w.sectors.ensures, at.large)
    ]

pub returns-clause-is_one : goal.returns-clause-is_one
returns-clause-is_one g c = λ honest other s at low.
    let usable = c.requires.usable in
    let is = shown_as (now (g.D.Disk.trail c.args.store.now.disk)) s c.standing_law.ensures
    (c.info.ensures.durable usable honest) at in
    let told = ap (λ x. x.events) (ap (ok_of c.in_ok-info.info) (sym c.in_ok-info.was ∙ c.info.ensures.value usable)) in
    let shown = c.in_ok-shown.ensures.shown honest other s
    (stands_first (now (g.D.Disk.trail c.args.store.now.disk)).reads s at) in
    undone_to g.E.Disk c.standing_law.ensures s shown
    (c.shows_what_crashes_leave-2.ensures.durable shown.usable) c.args.count _ c.in_ok-taken_back.ensures.ok
    (omega (arith, told, is.events, low)) low

pub returns-clause-there : goal.returns-clause-there
returns-clause-there g c = λ honest other s at.
    let usable = c.requires.usable in
    let is = shown_as (now (g.D.Disk.trail c.args.store.now.disk)) s c.standing_law.ensures
    (c.info.ensures.durable usable honest) at in
    let told = ap (λ x. x.events) (ap (ok_of c.in_ok-info.info) (sym c.in_ok-info.was ∙ c.info.ensures.value usable)) in
    let shown = c.in_ok-shown.ensures.shown honest other s
    (stands_first (now (g.D.Disk.trail c.args.store.now.disk)).reads s at) in (
      omega (arith, c.if-count-info.false, told, is.events),
      c.taken_back.ensures.device.still shown.honest,
    )
