use Rattle.std.proofs.Common.{◌≡◌, arith, subst}
use Rattle.std.proofs.lemmas.Result.{on_ok_weaker}
use Rattle.sector_disk.specs.Trail.{LeavesOnly}
use Rattle.store_layout.specs.Kept.{IsSettled}
use Rattle.store_slots.specs.Beside.{StandsOneOf}
use Rattle.store_slots.proofs.Beside.{back_within, back_across}
use Rattle.store_slots.proofs.leaving.undo_to.Goals as goal

pub returns-then-to-slot-clause-any_moment : goal.returns-then-to-slot-clause-any_moment
returns-then-to-slot-clause-any_moment g c = λ honest s rest events goes.
    let b = back_within goes c.if-to-slot.true in
    subst (λ x. LeavesOnly (g.D.Disk.trail c.args.disk.now) (g.D.Disk.trail c.take_back.new.disk)
    (StandsOneOf (g.D.Disk.size c.args.disk.now) s x)) b.1 (c.take_back.ensures.any_moment honest s b.0)

pub returns-then-to-slot-clause-left : goal.returns-then-to-slot-clause-left
returns-then-to-slot-clause-left g c = on_ok_weaker c.take_back.result (λ taken honest s rest events goes.
    let b = back_within goes c.if-to-slot.true in
    subst (IsSettled (g.D.Disk.size c.args.disk.now) (g.D.Disk.trail c.take_back.new.disk)) b.1 (taken honest s b.0))
    c.take_back.ensures.taken

pub returns-else-to-slot-clause-any_moment : goal.returns-else-to-slot-clause-any_moment
returns-else-to-slot-clause-any_moment g c = λ honest s rest events goes.
    let b = back_across goes (λ is. omega (arith, is, c.if-to-slot.false)) in
    subst (λ x. LeavesOnly (g.D.Disk.trail c.args.disk.now) (g.D.Disk.trail c.go_back.new.disk)
    (StandsOneOf (g.D.Disk.size c.args.disk.now) s x)) b.3 (c.go_back.ensures.any_moment honest s b.0 b.1 b.2)

pub returns-else-to-slot-clause-left : goal.returns-else-to-slot-clause-left
returns-else-to-slot-clause-left g c = on_ok_weaker c.go_back.result (λ left honest s rest events goes.
    let b = back_across goes (λ is. omega (arith, is, c.if-to-slot.false)) in
    subst (IsSettled (g.D.Disk.size c.args.disk.now) (g.D.Disk.trail c.go_back.new.disk)) b.3 (left honest s b.0 b.1 b.2))
    c.go_back.ensures.left
