use Rattle.std.proofs.Common.{◌∙◌, sym}
use Rattle.script_lines.proofs.Numbers.{number_is}
use Rattle.script_lines.proofs.words.number.Goals as goal

pub returns : goal.returns
returns c = c.read.ensures ∙ sym (number_is c.args.text.now)
