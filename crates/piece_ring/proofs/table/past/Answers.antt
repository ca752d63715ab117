use Rattle.std.proofs.Common.{◌≡◌, ◌+◌, ◌-◌, length, Some, slice_get, ap, sym, ◌∙◌, arith}
use Rattle.std.proofs.lemmas.Option.{slice_get_within}
use Rattle.piece_ring.proofs.Marks.{past_some, top_last}
use Rattle.piece_ring.proofs.table.past.Goals as goal

pub returns-in-Some : goal.returns-in-Some
returns-in-Some c =
    let v = c.in-Some.ensures.value in let d = c.deref.ensures.value in let ms = c.args.marks.now.items in
    let e : slice_get ms (length ms - 1) ≡ Some c.in-Some.mark.now = cc in
    let some = slice_get_within ms (length ms - 1) c.in-Some.mark.now e in
    ap (λ n. n + 1) (top_last 0 ms c.in-Some.mark.now e) ∙ sym (past_some ms (omega (arith, some)))
