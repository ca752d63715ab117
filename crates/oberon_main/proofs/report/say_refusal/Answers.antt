use Rattle.std.proofs.Common.{ℕ, List, subst, ◌∙◌}
use Rattle.screen_cells.specs.Sent.{Sends}
use Rattle.oberon_main.proofs.report.say_refusal.Goals as goal

pub returns-clause-sent : goal.returns-clause-sent
returns-clause-sent g c =
    subst (λ (text : List ℕ). Sends c.send.result (g.W.AnswerWriter.contents c.args.writer.now)
    (g.W.AnswerWriter.contents c.send.new.writer) text)
    (c.as_slice.ensures.value ∙ c.refusal_bytes-line.ensures) c.send.ensures.sent
