use Rattle.terminal_keyboard.proofs.Found.{all_found, escape_alone, alt_alone}
use Rattle.terminal_keyboard.proofs.laws.spelled_presses_are_found.Goals as goal

pub returns-clause-presses : goal.returns-clause-presses
returns-clause-presses c presses heard are = (all_found presses heard are).1

pub returns-clause-parser : goal.returns-clause-parser
returns-clause-parser c presses heard are = (all_found presses heard are).0

pub returns-clause-escape : goal.returns-clause-escape
returns-clause-escape c = escape_alone

pub returns-clause-alt : goal.returns-clause-alt
returns-clause-alt c b more is = alt_alone b more is
