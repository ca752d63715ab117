use Rattle.std.proofs.Common.{◌≡◌, length}
use Rattle.byte_streams.proofs.Taking.{HasTaken}
use Rattle.screen_drawing.proofs.sending.send_bytes.Given as goal

abbrev pub invariant-loop-rest : goal.invariant-loop-rest
invariant-loop-rest g l = record {
  taken : HasTaken (g.W.AnswerWriter.contents l.fn.writer) (g.W.AnswerWriter.contents l.writer) l.bytes l.rest;
  calm : g.W.AnswerWriter.failures l.writer ≡ g.W.AnswerWriter.failures l.fn.writer;
}

abbrev pub decreases-loop-rest : goal.decreases-loop-rest
decreases-loop-rest g l = length l.rest
