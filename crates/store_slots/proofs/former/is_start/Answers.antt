use Rattle.std.proofs.Common.{◌≡◌, ◌∙◌, refl, subst, sym}
use Rattle.std.proofs.lemmas.Result.{err_from_is_err_and}
use Rattle.sector_disk.specs.Trail.{now}
use Rattle.sector_disk.proofs.Confinement as confined
use Rattle.sector_disk.proofs.Touching.{still_all}
use Rattle.store_layout.specs.Layout.{head}
use Rattle.store_layout.specs.Meaning.{HasImage}
use Rattle.store_slots.proofs.Alike.{starts_so}
use Rattle.store_slots.proofs.Formers.{never_damaged}
use Rattle.store_slots.proofs.Staying.{apart_nowhere, live_stays}
use Rattle.store_slots.proofs.former.is_start.Goals as goal

pub shows_same-requires-clause-on : goal.shows_same-requires-clause-on
shows_same-requires-clause-on g c =
    let d = g.D.Disk in
    let live = c.args.desktop.now in record {
      live = c.requires.on.live;
      told = live_stays d live
          (confined.joined d.size d.honest d.trail c.starts_from.ensures.kept c.load_slot.ensures.kept)
          (apart_nowhere live.pages) c.requires.on.told;
    }

pub returns-then-branch-clause-same : goal.returns-then-branch-clause-same
returns-then-branch-clause-same g c = λ honest newest is. (
  λ yes. c.in_ok-starts_from.ensures.starts c.if-branch.true honest is,
  λ here. refl,
)

pub returns-in_err-start-clause-damaged : goal.returns-in_err-start-clause-damaged
returns-in_err-start-clause-damaged g c =
    let p = err_from_is_err_and c.from_residual-in_err-start.result c.from_residual-in_err-start.ensures.1 in
    λ n bad honest is start image.
    let run = c.starts_from.ensures.kept in
    let same = still_all _ _ (run.moments honest) in
    let there = subst (λ x. head x c.args.slot ≡ c.args.head.now) (sym same) is in
    (c.in_err-start.ensures.damaged n (cc (p.1, p.2, bad)) (run.still honest) there).1 start
    (subst (λ x. HasImage x c.args.slot start) (sym same) image)

pub returns-clause-same : goal.returns-clause-same
returns-clause-same g c = λ honest newest is.
    let d = g.D.Disk in
    let one = c.starts_from.ensures.kept in
    let two = c.load_slot.ensures.kept in
    let second = one.still honest in
    let e1 = still_all (d.trail c.args.disk.now) (d.trail c.starts_from.new.disk) (one.moments honest) in
    let e2 = still_all (d.trail c.starts_from.new.disk) (d.trail c.load_slot.new.disk) (two.moments second) ∙ e1 in
    starts_so (now (d.trail c.args.disk.now)).reads (now (d.trail c.starts_from.new.disk)).reads
    (now (d.trail c.load_slot.new.disk)).reads c.args.slot c.args.desktop.now c.in_ok-start.start c.one_desktop.ensures e1 e2 is
    (c.in_ok-start.ensures.image second) (c.in_ok-shows_same.ensures.same (two.still second))

pub returns-clause-kept : goal.returns-clause-kept
returns-clause-kept g c =
    let d = g.D.Disk in
    confined.joined d.size d.honest d.trail
    (confined.joined d.size d.honest d.trail c.starts_from.ensures.kept c.load_slot.ensures.kept)
    c.shows_same.ensures.disk

pub returns-in_err-shows_same-clause-kept : goal.returns-in_err-shows_same-clause-kept
returns-in_err-shows_same-clause-kept g c =
    let d = g.D.Disk in
    confined.joined d.size d.honest d.trail
    (confined.joined d.size d.honest d.trail c.starts_from.ensures.kept c.load_slot.ensures.kept)
    c.shows_same.ensures.disk

pub returns-in_err-shows_same-clause-damaged : goal.returns-in_err-shows_same-clause-damaged
returns-in_err-shows_same-clause-damaged g c =
    let p = err_from_is_err_and c.from_residual-in_err-shows_same.result c.from_residual-in_err-shows_same.ensures.1 in
    λ n bad honest is start image.
    never_damaged c.from_residual-in_err-shows_same.result p.0 c.in_err-shows_same.field-0.0 n p.1 p.2
    c.in_err-shows_same.ensures.faults.errors bad
