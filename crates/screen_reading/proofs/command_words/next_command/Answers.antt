use Rattle.std.proofs.Common.{ap, Some, ◌∙◌}
use Rattle.std.specs.Prelude.{option_map}
use Rattle.screen_reading.specs.CommandWords.{cell_behind, next_command}
use Rattle.screen_reading.proofs.command_words.next_command.Goals as goal

pub returns-in-None : goal.returns-in-None
unfolding next_command
returns-in-None c = ap (option_map (cell_behind c.args.at)) c.in-None.ensures.value

pub returns-in-Some : goal.returns-in-Some
unfolding next_command
returns-in-Some c = ap Some c.cell_behind.ensures.value ∙ ap (option_map (cell_behind c.args.at)) c.in-Some.ensures.value
