use Rattle.std.proofs.Common.{◌∙◌, ℕ, List, subst}
use Rattle.std.specs.Io.KnownBytes.{Appends}
use Rattle.byte_streams.specs.Sent.{AppendsFront}
use Rattle.byte_streams.proofs.Taking.{front_sent}
use Rattle.screen_drawing.proofs.Parts.{next_front, next_operation, next_taken}
use Rattle.screen_drawing.proofs.sending.send.Goals as goal

pub returns-in_err-send_bytes-clause-sent : goal.returns-in_err-send_bytes-clause-sent
returns-in_err-send_bytes-clause-sent g c = front_sent c.from_residual.result _ _ _ _ c.from_residual.ensures.1
    (next_front _ _ _ _ _ _ _
    (next_operation c.args.operations.now c.loop-operation.operation-index _ c.loop-operation-test.true)
    c.loop-operation.invariant.taken
    (subst (λ (l : List ℕ). AppendsFront (g.W.AnswerWriter.contents c.loop-operation.writer)
    (g.W.AnswerWriter.contents c.send_bytes.new.writer) l) (c.as_slice.ensures.value ∙ c.spell.ensures.bytes)
    c.in_err-send_bytes.ensures.sent.front))

pub loop-operation-preserved : goal.loop-operation-preserved
loop-operation-preserved g c = record {
  taken = next_taken _ _ _ _ _ _ _
      (next_operation c.args.operations.now c.loop-operation.operation-index _ c.loop-operation-test.true)
      c.loop-operation.invariant.taken
      (subst (λ (l : List ℕ). Appends (g.W.AnswerWriter.contents c.loop-operation.writer)
      (g.W.AnswerWriter.contents c.send_bytes.new.writer) l) (c.as_slice.ensures.value ∙ c.spell.ensures.bytes)
      c.in_ok-send_bytes.ensures.sent.sent);
  calm = c.in_ok-send_bytes.ensures.cause ∙ c.loop-operation.invariant.calm;
}
