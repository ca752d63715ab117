use Rattle.script_lines.proofs.Numbers.{only_decimals}
use Rattle.script_lines.proofs.laws.numbers_are_decimal.Goals as goal

pub returns : goal.returns
returns c = only_decimals
