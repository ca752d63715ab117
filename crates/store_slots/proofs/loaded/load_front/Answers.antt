use Rattle.std.proofs.Common.{◌/◌, ◌∙◌, ap, sym, subst}
use Rattle.std.proofs.lemmas.Result.{err_from_is_err_and}
use Rattle.sector_disk.specs.Trail.{now}
use Rattle.sector_disk.proofs.Confinement as confined
use Rattle.sector_disk.specs.declared.disk.TheConstants.{SECTOR_BYTES}
use Rattle.store_slots.specs.Live.{IsNamed}
use Rattle.store_slots.proofs.Loading.{image_damage, body_damage, cut_shown, slot_here, named_after}
use Rattle.store_slots.proofs.loaded.load_front.Goals as goal

pub returns-in_err-desktop-clause-damaged : goal.returns-in_err-desktop-clause-damaged
returns-in_err-desktop-clause-damaged g c =
    let p = err_from_is_err_and c.from_residual-in_err-desktop.result c.from_residual-in_err-desktop.ensures.1 in
    λ n is honest.
    image_damage (c.in_ok-slot.ensures.located honest) (c.locate.ensures.kept.moments honest)
    (c.in_err-desktop.ensures.damaged n (cc (p.1, p.2, is)) (c.locate.ensures.kept.still honest))

pub returns-in_err-replay_to-clause-damaged : goal.returns-in_err-replay_to-clause-damaged
returns-in_err-replay_to-clause-damaged g c =
    let p = err_from_is_err_and c.from_residual-in_err-replay_to.result c.from_residual-in_err-replay_to.ensures.1 in
    λ n is honest.
    let second = c.locate.ensures.kept.still honest in
    body_damage (c.in_ok-slot.ensures.located honest) (c.locate.ensures.kept.moments honest)
    (c.in_ok-desktop.ensures.image second) (c.load_slot.ensures.kept.moments second)
    (c.in_err-replay_to.ensures.damaged n (cc (p.1, p.2, is)) (c.load_slot.ensures.kept.still second))

pub returns-clause-shown : goal.returns-clause-shown
returns-clause-shown g c = λ honest s stands enough.
    let e = c.in_ok-desktop.ensures in
    let found = c.in_ok-slot.ensures.located honest in
    let first = c.locate.ensures.kept.moments honest in
    let second = c.locate.ensures.kept.still honest in
    let loads = c.load_slot.ensures.kept.moments second in
    let third = c.load_slot.ensures.kept.still second in
    let replays = c.replay_to.ensures.kept.moments third in
    let r = c.in_ok-replay_to.ensures in (
      cut_shown found first (e.image second) loads (sym c.version_of-version.ensures) (r.read third) r.few
          c.standing_law.ensures s stands enough,
      subst (λ n. IsNamed (now (g.D.Disk.trail c.replay_to.new.disk)).reads n c.replay_to.new.desktop)
          (slot_here found first (e.image second) loads (sym c.version_of-version.ensures) (r.read third) r.few
          c.standing_law.ensures s stands enough)
          (named_after _ c.replay_to.new.desktop found.is first loads replays (r.left.area ∙ e.under.area)
          (λ not. ap (λ n. n / SECTOR_BYTES) (r.left.counted not) ∙ e.under.saved)),
    )

pub returns-clause-kept : goal.returns-clause-kept
returns-clause-kept g c =
    let d = g.D.Disk in
    confined.joined d.size d.honest d.trail
    (confined.joined d.size d.honest d.trail c.locate.ensures.kept c.load_slot.ensures.kept) c.replay_to.ensures.kept

pub returns-in_err-replay_to-clause-kept : goal.returns-in_err-replay_to-clause-kept
returns-in_err-replay_to-clause-kept g c =
    let d = g.D.Disk in
    confined.joined d.size d.honest d.trail
    (confined.joined d.size d.honest d.trail c.locate.ensures.kept c.load_slot.ensures.kept) c.replay_to.ensures.kept
