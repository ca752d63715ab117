use Rattle.std.proofs.Common.{sym}
use Rattle.script_lines.proofs.Stretches.{none_other}
use Rattle.script_lines.proofs.answer.count_in_look.Goals as goal

pub returns-in-None-clause-count : goal.returns-in-None-clause-count
returns-in-None-clause-count c = none_other c.args.look c.args.text.now (sym c.in-None.ensures.first)
