use Rattle.std.proofs.Common.{◌/◌, sym, ◌∙◌, ap}
use Rattle.std.proofs.lemmas.Result.{err_from_is_err_and}
use Rattle.sector_disk.proofs.Confinement as confined
use Rattle.store_slots.proofs.Loading.{image_damage, body_damage, shows, loaded, named_after}
use Rattle.sector_disk.specs.declared.disk.TheConstants.{SECTOR_BYTES}
use Rattle.store_slots.proofs.loaded.load.Goals as goal

pub returns-in_err-desktop-clause-damaged : goal.returns-in_err-desktop-clause-damaged
returns-in_err-desktop-clause-damaged g c =
    let p = err_from_is_err_and c.from_residual-in_err-desktop.result c.from_residual-in_err-desktop.ensures.1 in
    λ n is honest.
    image_damage (c.in_ok-slot.ensures.located honest) (c.locate.ensures.kept.moments honest)
    (c.in_err-desktop.ensures.damaged n (cc (p.1, p.2, is)) (c.locate.ensures.kept.still honest))

pub returns-in_err-events-clause-damaged : goal.returns-in_err-events-clause-damaged
returns-in_err-events-clause-damaged g c =
    let p = err_from_is_err_and c.from_residual-in_err-events.result c.from_residual-in_err-events.ensures.1 in
    λ n is honest.
    let second = c.locate.ensures.kept.still honest in
    body_damage (c.in_ok-slot.ensures.located honest) (c.locate.ensures.kept.moments honest)
    (c.in_ok-desktop.ensures.image second) (c.load_slot.ensures.kept.moments second)
    (c.in_err-events.ensures.damaged n (cc (p.1, p.2, is)) (c.load_slot.ensures.kept.still second))

pub returns-clause-found : goal.returns-clause-found
returns-clause-found g c = λ honest.
    let second = c.locate.ensures.kept.still honest in
    shows (c.in_ok-slot.ensures.located honest) (c.locate.ensures.kept.moments honest)
    (c.in_ok-desktop.ensures.image second) (c.load_slot.ensures.kept.moments second)
    (sym c.version_of-version.ensures) (c.in_ok-events.ensures.whole (c.load_slot.ensures.kept.still second))

pub returns-clause-shown : goal.returns-clause-shown
returns-clause-shown g c = λ honest.
    let e = c.in_ok-desktop.ensures in
    let found = c.in_ok-slot.ensures.located honest in
    let first = c.locate.ensures.kept.moments honest in
    let second = c.locate.ensures.kept.still honest in
    let loads = c.load_slot.ensures.kept.moments second in
    let third = c.load_slot.ensures.kept.still second in
    let replays = c.replay.ensures.kept.moments third in (
      loaded found first (e.image second) loads (sym c.version_of-version.ensures) (c.in_ok-events.ensures.whole third) replays
          (c.in_ok-slot.ensures.quiet honest),
      named_after _ c.replay.new.desktop found.is first loads replays
          (c.in_ok-events.ensures.left.area ∙ e.under.area)
          (λ not. ap (λ n. n / SECTOR_BYTES) (c.in_ok-events.ensures.left.counted not) ∙ e.under.saved),
    )

pub returns-clause-kept : goal.returns-clause-kept
returns-clause-kept g c =
    let d = g.D.Disk in
    confined.joined d.size d.honest d.trail
    (confined.joined d.size d.honest d.trail c.locate.ensures.kept c.load_slot.ensures.kept) c.replay.ensures.kept

pub returns-in_err-events-clause-kept : goal.returns-in_err-events-clause-kept
returns-in_err-events-clause-kept g c =
    let d = g.D.Disk in
    confined.joined d.size d.honest d.trail
    (confined.joined d.size d.honest d.trail c.locate.ensures.kept c.load_slot.ensures.kept) c.replay.ensures.kept
