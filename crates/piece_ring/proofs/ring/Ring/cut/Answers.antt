use Rattle.std.proofs.Common.{◌≡◌, ◌<◌, length, sym, ap, ◌∙◌, arith}
use Rattle.piece_ring.specs.FingeredPieces.{FingeredPieces}
use Rattle.piece_ring.proofs.Earlier.{seam_order}
use Rattle.piece_ring.proofs.Moving.{seam_inside}
use Rattle.piece_ring.proofs.Seams.{piece_count, small_count}
use Rattle.piece_ring.proofs.ring.Ring.cut.Goals as goal

pub overflow_sub-upto : goal.overflow_sub-upto
overflow_sub-upto c =
    let from = c.in_ok-from.ensures.from in let upto = c.in_ok-from.ensures.upto in
    let some = c.if-beg-end.false in let weak = c.requires.order in let a : c.in_ok-from.from.pos ≡ c.args.beg = from.1 in
    let b : c.in_ok-from.upto.pos ≡ c.args.end = upto.1 in
    let order : c.in_ok-from.from.pos < c.in_ok-from.upto.pos = omega arith in
    let less = seam_order c.seams.new.self.chain.nodes c.in_ok-from.from c.in_ok-from.upto from.0 upto.0 order in
    omega arith

pub reserve-requires : goal.reserve-requires
reserve-requires c =
    let l = c.seams.new.self in let upto = c.in_ok-from.ensures.upto in
    let at = seam_inside l.chain.nodes c.in_ok-from.upto upto.0 in let few = small_count l.sound in
    let counted = l.sound.counted in omega arith

-- a new ring has no pieces
pub put_all-requires-clause-none : goal.put_all-requires-clause-none
put_all-requires-clause-none c =
    let l = c.taken.inside.list in
    let bare = ap (λ (r : FingeredPieces). length r.pieces) c.taken.view_is ∙ ap length c.in_ok-taken.ensures in
    c.reserve.ensures.count ∙ sym (piece_count l.chain.nodes l.trailer.ptr l.count l.len l.sound) ∙ bare
