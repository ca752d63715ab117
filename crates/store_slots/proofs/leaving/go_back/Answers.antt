use Rattle.std.proofs.Common.{◌≡◌, ◌+◌, ◌-◌, inl, inr, arith, length, refl, subst, sym}
use Rattle.sector_disk.specs.Trail.{LeavesOnly, now}
use Rattle.sector_disk.proofs.Confinement as confined
use Rattle.sector_disk.proofs.Touching.{chained}
use Rattle.store_layout.specs.Meaning.{Standing, cut_to}
use Rattle.store_layout.specs.Kept.{IsSettled}
use Rattle.store_slots.specs.Beside.{StandsOneOf, StandsOver}
use Rattle.store_slots.proofs.Beside.{first_moments, over_rest}
use Rattle.store_slots.proofs.leaving.go_back.Goals as goal

pub returns-in_err-shut-clause-kept : goal.returns-in_err-shut-clause-kept
returns-in_err-shut-clause-kept g c =
    let d = g.D.Disk in
    confined.widened d.size d.honest d.trail (λ n here. inl here) c.shut.ensures.kept

pub returns-in_err-leave_slot-clause-kept : goal.returns-in_err-leave_slot-clause-kept
returns-in_err-leave_slot-clause-kept g c =
    let d = g.D.Disk in
    confined.joined d.size d.honest d.trail
    (confined.widened d.size d.honest d.trail (λ n here. inl here) c.shut.ensures.kept)
    (confined.widened d.size d.honest d.trail (λ n here. inr (omega (arith, c.requires.two), here.0)) c.leave_slot.ensures.kept)

pub returns-clause-kept : goal.returns-clause-kept
returns-clause-kept g c =
    let d = g.D.Disk in
    confined.joined d.size d.honest d.trail
    (confined.widened d.size d.honest d.trail (λ n here. inl here) c.shut.ensures.kept)
    (confined.widened d.size d.honest d.trail (λ n here. inr (omega (arith, c.requires.two), here.0)) c.leave_slot.ensures.kept)

pub returns-in_err-shut-clause-any_moment : goal.returns-in_err-shut-clause-any_moment
returns-in_err-shut-clause-any_moment g c = λ honest s t at more.
    first_moments at more refl (c.shut.ensures.kept.moments honest)

pub returns-in_err-leave_slot-clause-any_moment : goal.returns-in_err-leave_slot-clause-any_moment
returns-in_err-leave_slot-clause-any_moment g c = λ honest s t at more.
    let first = c.shut.ensures.kept in
    chained (first_moments at more refl (first.moments honest))
    (subst (λ n. LeavesOnly (g.D.Disk.trail c.shut.new.disk) (g.D.Disk.trail c.leave_slot.new.disk)
    (StandsOneOf n s (cut_to c.args.k t))) first.as_large
    (c.leave_slot.ensures.any_moment (first.still honest) s (cut_to c.args.k t)
    (subst (λ n. StandsOver n (g.D.Disk.trail c.shut.new.disk) c.args.slot s (cut_to c.args.k t))
    (sym first.as_large)
    (over_rest at more refl (first.moments honest) (c.in_ok-shut.ensures.closed honest) (c.in_ok-shut.ensures.quiet honest)))))

pub returns-clause-any_moment : goal.returns-clause-any_moment
returns-clause-any_moment g c = λ honest s t at more.
    let first = c.shut.ensures.kept in
    chained (first_moments at more refl (first.moments honest))
    (subst (λ n. LeavesOnly (g.D.Disk.trail c.shut.new.disk) (g.D.Disk.trail c.leave_slot.new.disk)
    (StandsOneOf n s (cut_to c.args.k t))) first.as_large
    (c.leave_slot.ensures.any_moment (first.still honest) s (cut_to c.args.k t)
    (subst (λ n. StandsOver n (g.D.Disk.trail c.shut.new.disk) c.args.slot s (cut_to c.args.k t))
    (sym first.as_large)
    (over_rest at more refl (first.moments honest) (c.in_ok-shut.ensures.closed honest) (c.in_ok-shut.ensures.quiet honest)))))

pub returns-clause-left : goal.returns-clause-left
returns-clause-left g c = λ honest s t at more.
    let first = c.shut.ensures.kept in
    subst (λ n. IsSettled n (g.D.Disk.trail c.leave_slot.new.disk) (cut_to c.args.k t)) first.as_large
    (c.in_ok-leave_slot.ensures.left (first.still honest) s (cut_to c.args.k t)
    (subst (λ n. StandsOver n (g.D.Disk.trail c.shut.new.disk) c.args.slot s (cut_to c.args.k t))
    (sym first.as_large)
    (over_rest at more refl (first.moments honest) (c.in_ok-shut.ensures.closed honest) (c.in_ok-shut.ensures.quiet honest))))
