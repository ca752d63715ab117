use Rattle.terminal_presses.proofs.Keyed.{drawn_click, repeated_click, left_click, puts_away, still_on_display}
use Rattle.terminal_presses.proofs.laws.one_pointer_is_enough.Goals as goal

pub returns-clause-click : goal.returns-clause-click
returns-clause-click c = drawn_click

pub returns-clause-again : goal.returns-clause-again
returns-clause-again c = repeated_click

pub returns-clause-left : goal.returns-clause-left
returns-clause-left c = left_click

pub returns-clause-away : goal.returns-clause-away
returns-clause-away c = puts_away

pub returns-clause-stays : goal.returns-clause-stays
returns-clause-stays c = still_on_display
