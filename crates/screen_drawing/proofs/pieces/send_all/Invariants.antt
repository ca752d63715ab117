use Rattle.std.proofs.Common.{drop}
use Rattle.byte_streams.proofs.Taking.{HasTaken}
use Rattle.screen_drawing.specs.Strokes.{joined_pieces}
use Rattle.screen_drawing.proofs.pieces.send_all.Given as goal

abbrev pub invariant-loop-piece : goal.invariant-loop-piece
invariant-loop-piece g l = HasTaken (g.W.Write.contents l.fn.writer) (g.W.Write.contents l.writer) (joined_pieces l.pieces)
    (joined_pieces (drop l.piece-index l.pieces))
