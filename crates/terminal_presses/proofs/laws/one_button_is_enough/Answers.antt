use Rattle.terminal_presses.proofs.Clicks.{said_click}
use Rattle.terminal_presses.proofs.laws.one_button_is_enough.Goals as goal

pub returns-clause-function : goal.returns-clause-function
returns-clause-function c = said_click
