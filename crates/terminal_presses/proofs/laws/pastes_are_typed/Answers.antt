use Rattle.terminal_presses.proofs.Typing.{paste_typed, paste_leaves}
use Rattle.terminal_presses.proofs.laws.pastes_are_typed.Goals as goal

pub returns-clause-typed : goal.returns-clause-typed
returns-clause-typed c = paste_typed

pub returns-clause-hand : goal.returns-clause-hand
returns-clause-hand c = paste_leaves
