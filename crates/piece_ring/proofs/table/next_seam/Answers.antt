use Rattle.std.proofs.Common.{◌+◌, refl, arith}
use Rattle.piece_ring.proofs.Seams.{seam-next, seam_within}
use Rattle.piece_ring.proofs.table.next_seam.Goals as goal

pub overflow_add-index : goal.overflow_add-index
overflow_add-index c = record { fits = omega arith }

pub overflow_add-result : goal.overflow_add-result
overflow_add-result c =
    let is = seam-next c.args.chain.now.nodes c.args.seam record
    { at = c.next-at.result; index = c.args.seam.index + 1; pos = c.args.seam.pos + c.piece-piece.result.len }
    c.piece-piece.result c.requires.seam (c.next-at.ensures.inner c.requires.more) c.piece-piece.ensures refl refl in
    let within = seam_within c.args.chain.now.nodes _ is in
    record { fits = omega arith }

pub returns-clause-after : goal.returns-clause-after
returns-clause-after c =
    seam-next c.args.chain.now.nodes c.args.seam _ c.piece-piece.result c.requires.seam
    (c.next-at.ensures.inner c.requires.more) c.piece-piece.ensures refl refl
