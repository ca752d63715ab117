use Rattle.std.specs.Prelude.{◌&&◌, nat_le}
use Rattle.std.specs.Str.{bytes_eq}
use Rattle.std.proofs.Common.{rules, tests, ◌∙◌}
use Rattle.std.proofs.lemmas.Iterator.{YieldsList-from_slice}
use Rattle.std.proofs.lemmas.Iterator.Consumers.{YieldsList-from_copied}
use Rattle.std.proofs.lemmas.Iterator.Search.{find_from_yields_List}
use Rattle.command_table.specs.Commands.{word_of, since, commands, command_named}
use Rattle.command_table.specs.Versions.{version_number}
use Rattle.command_table.proofs.Words.{option_map_self}
use Rattle.command_table.proofs.command.Command.named.Goals as goal

pub returns : goal.returns
unfolding command_named commands
returns c =
    option_map_self c.find.result
    ∙ find_from_yields_List (λ command. bytes_eq (word_of command) c.args.word.now
    && nat_le (since command) (version_number c.args.version)) _ _ _ c.find.ensures.ran
    (YieldsList-from_copied (YieldsList-from_slice commands cc)) (λ x b q k. search (rules, tests))
