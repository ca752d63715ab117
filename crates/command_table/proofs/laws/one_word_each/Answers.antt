use Rattle.command_table.proofs.Words.{one_word_each}
use Rattle.command_table.proofs.laws.one_word_each.Goals as goal

pub returns : goal.returns
returns c = one_word_each
