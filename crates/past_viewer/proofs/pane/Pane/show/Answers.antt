use Rattle.std.proofs.lemmas.Result.{on_ok_weaker}
use Rattle.past_viewer.proofs.pane.Pane.show.Goals as goal

pub returns-clause-shown : goal.returns-clause-shown
returns-clause-shown g c = on_ok_weaker c.ask_if.result (λ asked. record {
  behind = g.W.AnswerWriter.contents c.paint.new.writer;
  clipped = g.W.AnswerWriter.contents c.clip_if.new.writer;
  rung = g.W.AnswerWriter.contents c.ring_if.new.writer;
  painted = c.in_ok-paint.ensures.painted;
  gave = c.in_ok-clip_if.ensures.sent.sent;
  rang = c.in_ok-ring_if.ensures.sent.sent;
  asked = asked;
}) c.ask_if.ensures.sent.sent
