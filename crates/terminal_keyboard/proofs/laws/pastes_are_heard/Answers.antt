use Rattle.terminal_keyboard.proofs.Pasted.{paste_pressed, pasted_typed}
use Rattle.terminal_keyboard.proofs.laws.pastes_are_heard.Goals as goal

pub returns-clause-presses : goal.returns-clause-presses
returns-clause-presses c text all = (paste_pressed text all).1

pub returns-clause-parser : goal.returns-clause-parser
returns-clause-parser c text all = (paste_pressed text all).0

pub returns-clause-typed : goal.returns-clause-typed
returns-clause-typed c = pasted_typed
