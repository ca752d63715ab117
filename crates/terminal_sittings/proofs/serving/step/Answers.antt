use Rattle.std.proofs.Common.{◌∙◌, sym}
use Rattle.std.proofs.lemmas.Bool.{true≢false}
use Rattle.terminal_sittings.proofs.Between.{none_so}
use Rattle.terminal_sittings.proofs.Turning.{output_unsent}
use Rattle.terminal_sittings.proofs.serving.step.Goals as goal

pub returns-then-is_none-clause-steps : goal.returns-then-is_none-clause-steps
returns-then-is_none-clause-steps g c = record {
  shows = λ _. c.turn.ensures.turns;
  goes = λ asked. absurd (true≢false
      (sym (none_so c.args.sitting.now.travels c.is_none.result c.is_none.ensures ∙ c.if-is_none.true) ∙ asked));
}

pub returns-else-is_none-clause-steps : goal.returns-else-is_none-clause-steps
returns-else-is_none-clause-steps g c = record {
  shows = λ none. absurd (true≢false
      (sym none ∙ none_so c.args.sitting.now.travels c.is_none.result c.is_none.ensures ∙ c.if-is_none.false));
  goes = λ _. c.go.ensures.between _ _ _;
}

pub returns-else-is_none-clause-output : goal.returns-else-is_none-clause-output
returns-else-is_none-clause-output g c = output_unsent c.go.result _ c.go.ensures.unsent
