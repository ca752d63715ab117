use Rattle.byte_streams.proofs.Taking.{front_sent}
use Rattle.screen_drawing.proofs.Parts.{next_front, next_piece, next_taken}
use Rattle.screen_drawing.proofs.pieces.send_all.Goals as goal

pub returns-in_err-send : goal.returns-in_err-send
returns-in_err-send g c = front_sent c.from_residual.result _ _ _ _ c.from_residual.ensures.1 (next_front _ _ _ _ _ _ _
    (next_piece c.args.pieces.now c.loop-piece.piece-index _ c.loop-piece-test.true) c.loop-piece.invariant
    c.in_err-send.ensures.front)

pub loop-piece-preserved : goal.loop-piece-preserved
loop-piece-preserved g c = next_taken _ _ _ _ _ _ _
    (next_piece c.args.pieces.now c.loop-piece.piece-index _ c.loop-piece-test.true) c.loop-piece.invariant
    c.in_ok-send.ensures.sent
