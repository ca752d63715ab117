use Rattle.std.proofs.Common.{◌≡◌, drop}
use Rattle.byte_streams.proofs.Taking.{HasTaken}
use Rattle.screen_drawing.specs.Spelling.{spelled_all}
use Rattle.screen_drawing.proofs.sending.send.Given as goal

abbrev pub invariant-loop-operation : goal.invariant-loop-operation
invariant-loop-operation g l = record {
  taken : HasTaken (g.W.AnswerWriter.contents l.fn.writer) (g.W.AnswerWriter.contents l.writer)
      (spelled_all l.operations) (spelled_all (drop l.operation-index l.operations));
  calm : g.W.AnswerWriter.failures l.writer ≡ g.W.AnswerWriter.failures l.fn.writer;
}
