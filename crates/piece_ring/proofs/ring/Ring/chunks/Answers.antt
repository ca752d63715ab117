use Rattle.std.proofs.Common.{◌≤◌, ◌+◌, ◌*◌, ◌/◌, length, subst, arith}
use Rattle.piece_ring.specs.FingeredPieces.{FingeredPieces}
use Rattle.piece_ring.proofs.Seams.{piece_count, small_count}
use Rattle.piece_ring.proofs.ring.Ring.chunks.Goals as goal

pub overflow_add-result : goal.overflow_add-result
overflow_add-result c =
    let l = c.self.inside.list in let few = c.len.ensures.few in
    let counted = l.sound.counted in let small = small_count l.sound in record { fits = omega arith }

pub returns-clause-few : goal.returns-clause-few
returns-clause-few c =
    let l = c.self.inside.list in let few = c.len.ensures.few in
    let pieces = piece_count l.chain.nodes l.trailer.ptr l.count l.len l.sound in let counted = l.sound.counted in
    subst (λ (r : FingeredPieces). c.len.result + 1 ≤ length r.pieces / 16 + 1) c.self.view_is (omega arith)

pub returns-clause-enough : goal.returns-clause-enough
returns-clause-enough c =
    let l = c.self.inside.list in let enough = c.len.ensures.enough in
    let pieces = piece_count l.chain.nodes l.trailer.ptr l.count l.len l.sound in let counted = l.sound.counted in
    subst (λ (r : FingeredPieces). length r.pieces ≤ 128 * (c.len.result + 1)) c.self.view_is (omega arith)
