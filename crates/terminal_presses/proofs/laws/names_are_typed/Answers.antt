use Rattle.terminal_presses.proofs.Names.{name_typed, name_pasted}
use Rattle.terminal_presses.proofs.laws.names_are_typed.Goals as goal

pub returns-clause-typed : goal.returns-clause-typed
returns-clause-typed c = name_typed

pub returns-clause-pasted : goal.returns-clause-pasted
returns-clause-pasted c = name_pasted
