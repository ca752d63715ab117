use Rattle.terminal_sittings.proofs.serving.fetch.Goals as goal

pub returns-clause-brought : goal.returns-clause-brought
returns-clause-brought g c = record {
  mid = c.bring.new.sitting;
  asked_mid = g.K.Keyboard.asked c.bring.new.keyboard;
  brought = c.bring.ensures.brought;
  completed = c.complete.ensures.completed;
}
