use Rattle.terminal_presses.proofs.Clicks.{one_button, two_buttons, three_buttons, none_outside, extended}
use Rattle.terminal_presses.proofs.laws.buttons_make_one_point.Goals as goal

pub returns-clause-one : goal.returns-clause-one
returns-clause-one c = one_button

pub returns-clause-two : goal.returns-clause-two
returns-clause-two c sight pointer first second start p q end other seen =
    (two_buttons sight pointer first second start p q end other seen).in_turn

pub returns-clause-two_turned : goal.returns-clause-two_turned
returns-clause-two_turned c sight pointer first second start p q end other seen =
    (two_buttons sight pointer first second start p q end other seen).turned

pub returns-clause-three : goal.returns-clause-three
returns-clause-three c = three_buttons

pub returns-clause-outside : goal.returns-clause-outside
returns-clause-outside c = none_outside

pub returns-clause-extends : goal.returns-clause-extends
returns-clause-extends c = extended
