use Rattle.std.proofs.Common.{sym, ◌∙◌, refl}
use Rattle.std.proofs.lemmas.Bool.{false≢true}
use Rattle.oberon_main.specs.ByLines.{no_line, answered, ended}
use Rattle.oberon_main.proofs.Causes.{rises_in_line}
use Rattle.oberon_main.proofs.Played.{keeps_same}
use Rattle.oberon_main.proofs.playing.play_rest.Goals as goal

pub returns-then-is_empty-clause-by_lines : goal.returns-then-is_empty-clause-by_lines
returns-then-is_empty-clause-by_lines g c = λ durable honest rest holds.
    no_line ((c.is_empty.ensures rest holds).0 c.if-is_empty.true) (keeps_same _) refl

pub returns-in-Ok-clause-by_lines : goal.returns-in-Ok-clause-by_lines
returns-in-Ok-clause-by_lines g c = λ durable honest rest holds.
    answered (λ none. false≢true (sym c.if-is_empty.false ∙ (c.is_empty.ensures rest holds).1 none))
    (c.in-Ok.ensures.by_lines durable honest rest holds)

pub returns-in-Err-clause-by_lines : goal.returns-in-Err-clause-by_lines
returns-in-Err-clause-by_lines g c = λ durable honest rest holds.
    ended (λ none. false≢true (sym c.if-is_empty.false ∙ (c.is_empty.ensures rest holds).1 none))
    (c.in-Err.ensures.by_lines durable honest rest holds)

pub returns-in-Err-clause-faults : goal.returns-in-Err-clause-faults
returns-in-Err-clause-faults g c = rises_in_line _ c.in-Err.end _ _ _ _ c.in-Err.is c.play_line.ensures.faults

pub returns-in-Err-clause-writing : goal.returns-in-Err-clause-writing
returns-in-Err-clause-writing g c = record {
  handed = λ other none. c.play_line.ensures.handed (λ is. other (cc (is, c.in-Err.is))) none;
  output = rises_in_line _ c.in-Err.end _ _ _ _ c.in-Err.is c.play_line.ensures.output;
}
