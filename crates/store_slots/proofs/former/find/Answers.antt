use Rattle.std.proofs.Common.{◌∙◌, arith}
use Rattle.std.proofs.lemmas.Result.{err_from_is_err_and}
use Rattle.sector_disk.specs.Trail.{now}
use Rattle.sector_disk.proofs.Confinement as confined
use Rattle.sector_disk.proofs.Touching.{still_all}
use Rattle.store_slots.proofs.Formers.{former_found}
use Rattle.store_slots.proofs.Passed.{bad_here, closed_here, none_there, not_begun, not_loaded, not_there}
use Rattle.store_slots.proofs.former.find.Goals as goal

pub returns-in_err-is_start-clause-kept : goal.returns-in_err-is_start-clause-kept
returns-in_err-is_start-clause-kept g c =
    let d = g.D.Disk in
    confined.joined d.size d.honest d.trail
    (confined.joined d.size d.honest d.trail
    (confined.joined d.size d.honest d.trail c.head_before.ensures.kept c.read_slot.ensures.kept) c.load_of.ensures.kept)
    c.is_start.ensures.kept

pub returns-then-not-branch-clause-kept : goal.returns-then-not-branch-clause-kept
returns-then-not-branch-clause-kept g c =
    let d = g.D.Disk in
    confined.joined d.size d.honest d.trail
    (confined.joined d.size d.honest d.trail
    (confined.joined d.size d.honest d.trail c.head_before.ensures.kept c.read_slot.ensures.kept) c.load_of.ensures.kept)
    c.is_start.ensures.kept

pub returns-clause-kept : goal.returns-clause-kept
returns-clause-kept g c =
    let d = g.D.Disk in
    confined.joined d.size d.honest d.trail
    (confined.joined d.size d.honest d.trail
    (confined.joined d.size d.honest d.trail c.head_before.ensures.kept c.read_slot.ensures.kept) c.load_of.ensures.kept)
    c.is_start.ensures.kept

pub returns-clause-found : goal.returns-clause-found
returns-clause-found g c = λ honest.
    let one = c.head_before.ensures.kept in
    let two = c.read_slot.ensures.kept in
    let three = c.load_of.ensures.kept in
    let second = one.still honest in
    let third = two.still second in
    let fourth = three.still third in
    let e1 = still_all _ _ (one.moments honest) in
    let e2 = still_all _ _ (two.moments second) ∙ e1 in
    let e3 = still_all _ _ (three.moments third) ∙ e2 in
    former_found (now (g.D.Disk.trail c.args.disk.now)).reads (now (g.D.Disk.trail c.head_before.new.disk)).reads
    (now (g.D.Disk.trail c.read_slot.new.disk)).reads (now (g.D.Disk.trail c.load_of.new.disk)).reads c.args.slot c.args.epoch
    c.in_ok-loaded.loaded.desktop e1 e2 e3 c.requires.two
    ((rw c.in-Some.is at c.in_ok-before.ensures.some) honest)
    (rw c.in-Some.is at c.in_ok-before.ensures.good) (rw c.in-Some.is at c.in_ok-before.ensures.before)
    ((rw c.in-Some-2.is at c.in_ok-head.ensures.some) second)
    (c.in_ok-loaded.ensures.shown third)
    (λ is. (c.in_ok-is_start.ensures.same fourth (c.in_ok-is_start.ensures.newest c.if-not-branch.false) is).0
    c.if-not-branch.false)
    (c.in_ok-is_start.ensures.newest c.if-not-branch.false)

-- ---- nothing is found

pub returns-in_err-before-clause-damaged : goal.returns-in_err-before-clause-damaged
returns-in_err-before-clause-damaged g c = λ n bad honest.
    let p = err_from_is_err_and c.from_residual.result c.from_residual.ensures.1 in
    c.in_err-before.ensures.damaged n (cc (p.1, p.2, bad)) honest

pub returns-in_default-clause-none : goal.returns-in_default-clause-none
returns-in_default-clause-none g c = λ honest. (rw c.in_default.is at c.in_ok-before.ensures.none) honest

pub returns-in_err-head-clause-damaged : goal.returns-in_err-head-clause-damaged
returns-in_err-head-clause-damaged g c = λ n bad honest.
    let p = err_from_is_err_and c.from_residual-in_err-head.result c.from_residual-in_err-head.ensures.1 in
    let one = c.head_before.ensures.kept in
    bad_here (now (g.D.Disk.trail c.head_before.new.disk)).reads (still_all _ _ (one.moments honest))
    (c.in_err-head.ensures.damaged n (cc (p.1, p.2, bad)) (one.still honest)).2

pub returns-in_default-2-clause-none : goal.returns-in_default-2-clause-none
returns-in_default-2-clause-none g c = λ honest.
    let one = c.head_before.ensures.kept in
    closed_here (now (g.D.Disk.trail c.head_before.new.disk)).reads (still_all _ _ (one.moments honest))
    ((rw c.in_default-2.is at c.in_ok-head.ensures.none) (one.still honest))

pub returns-in_err-loaded-clause-damaged : goal.returns-in_err-loaded-clause-damaged
returns-in_err-loaded-clause-damaged g c = λ n bad honest.
    let p = err_from_is_err_and c.from_residual-in_err-loaded.result c.from_residual-in_err-loaded.ensures.1 in
    let one = c.head_before.ensures.kept in
    let two = c.read_slot.ensures.kept in
    let second = one.still honest in
    let e2 = still_all _ _ (two.moments second) ∙ still_all _ _ (one.moments honest) in
    not_loaded (now (g.D.Disk.trail c.read_slot.new.disk)).reads e2
    ((rw c.in-Some.is at c.in_ok-before.ensures.some) honest).1
    (c.in_err-loaded.ensures.damaged n (cc (p.1, p.2, bad)) (two.still second))

pub returns-then-loaded-eq0-clause-none : goal.returns-then-loaded-eq0-clause-none
returns-then-loaded-eq0-clause-none g c = λ honest.
    let one = c.head_before.ensures.kept in
    let two = c.read_slot.ensures.kept in
    let second = one.still honest in
    let third = two.still second in
    let e2 = still_all _ _ (two.moments second) ∙ still_all _ _ (one.moments honest) in
    none_there (now (g.D.Disk.trail c.read_slot.new.disk)).reads (now (g.D.Disk.trail c.load_of.new.disk)).reads e2
    ((rw c.in-Some.is at c.in_ok-before.ensures.some) honest).1
    (c.in_ok-loaded.ensures.shown third) (omega (arith, c.if-loaded-eq0.true))

pub returns-in_err-is_start-clause-damaged : goal.returns-in_err-is_start-clause-damaged
returns-in_err-is_start-clause-damaged g c = λ n bad honest.
    let p = err_from_is_err_and c.from_residual-in_err-is_start.result c.from_residual-in_err-is_start.ensures.1 in
    let one = c.head_before.ensures.kept in
    let two = c.read_slot.ensures.kept in
    let three = c.load_of.ensures.kept in
    let second = one.still honest in
    let third = two.still second in
    let e1 = still_all _ _ (one.moments honest) in
    let e2 = still_all _ _ (two.moments second) ∙ e1 in
    not_begun (now (g.D.Disk.trail c.head_before.new.disk)).reads (now (g.D.Disk.trail c.load_of.new.disk)).reads e1
    (still_all _ _ (three.moments third) ∙ e2)
    ((rw c.in-Some-2.is at c.in_ok-head.ensures.some) second).1
    (c.in_err-is_start.ensures.damaged n (cc (p.1, p.2, bad)) (three.still third))

pub returns-then-not-branch-clause-none : goal.returns-then-not-branch-clause-none
returns-then-not-branch-clause-none g c = λ honest.
    let one = c.head_before.ensures.kept in
    let two = c.read_slot.ensures.kept in
    let three = c.load_of.ensures.kept in
    let second = one.still honest in
    let third = two.still second in
    let fourth = three.still third in
    let e1 = still_all _ _ (one.moments honest) in
    let e2 = still_all _ _ (two.moments second) ∙ e1 in
    let e3 = still_all _ _ (three.moments third) ∙ e2 in
    not_there (now (g.D.Disk.trail c.head_before.new.disk)).reads (now (g.D.Disk.trail c.read_slot.new.disk)).reads
    (now (g.D.Disk.trail c.load_of.new.disk)).reads c.at_most_one_begins.ensures c.one_desktop.ensures e1 e2 e3
    ((rw c.in-Some.is at c.in_ok-before.ensures.some) honest).1
    (rw c.in-Some.is at c.in_ok-before.ensures.before).1
    (c.in_ok-loaded.ensures.shown third)
    ((rw c.in-Some-2.is at c.in_ok-head.ensures.some) second).1
    (c.in_ok-is_start.ensures.same fourth) c.if-not-branch.true
