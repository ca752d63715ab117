use Rattle.command_table.proofs.Deciding.{first_names_decide}
use Rattle.command_table.proofs.laws.first_names_decide.Goals as goal

pub returns : goal.returns
returns c = first_names_decide
