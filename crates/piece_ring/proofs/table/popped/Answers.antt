use Rattle.std.proofs.Common.{◌≡◌, ◌-◌, length, Some, slice_get, refl, arith, inr}
use Rattle.piece_ring.proofs.Marks.{top_last}
use Rattle.piece_ring.proofs.table.popped.Goals as goal

pub returns-then-mark-least-clause-marks : goal.returns-then-mark-least-clause-marks
returns-then-mark-least-clause-marks c =
    let v = c.in-Some.ensures.value in let d = c.deref.ensures.value in
    let e : slice_get c.args.marks.now.items (length c.args.marks.now.items - 1) ≡ Some c.in-Some.mark.now = cc in
    let at = top_last 0 c.args.marks.now.items c.in-Some.mark.now e in
    let low = c.if-mark-least.true in
    (refl, inr (omega arith))
