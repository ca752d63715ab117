use Rattle.std.proofs.Common.{◌≡◌, ◌-◌, length, Some, slice_get}
use Rattle.piece_ring.proofs.Marks.{top_last}
use Rattle.piece_ring.proofs.table.top.Goals as goal

pub returns-in-Some : goal.returns-in-Some
returns-in-Some c =
    let v = c.in-Some.ensures.value in let d = c.deref.ensures.value in
    let e : slice_get c.args.marks.now.items (length c.args.marks.now.items - 1) ≡ Some c.in-Some.mark.now = cc in
    top_last 0 c.args.marks.now.items c.in-Some.mark.now e
