use Rattle.command_table.proofs.Runs.{word_is_longest}
use Rattle.command_table.proofs.laws.word_is_longest.Goals as goal

pub returns : goal.returns
returns c = word_is_longest
