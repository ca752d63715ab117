use Rattle.piece_ring.proofs.Behind.{before_seam}
use Rattle.piece_ring.proofs.list.PieceList.piece_before.Goals as goal

pub returns-clause-text : goal.returns-clause-text
returns-clause-text c = before_seam c.args.self.now.chain.nodes c.step_back.result c.args.seam c.piece-piece.result
    c.step_back.ensures.next c.piece-piece.ensures
