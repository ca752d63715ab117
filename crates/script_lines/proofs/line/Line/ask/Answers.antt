use Rattle.std.proofs.Common.{sym, ◌∙◌}
use Rattle.script_lines.proofs.LongLines.{long_malformed}
use Rattle.script_lines.proofs.line.Line.ask.Goals as goal

pub returns-then-self : goal.returns-then-self
returns-then-self c line held = c.ask_nothing.ensures ∙ sym (long_malformed line (held.long c.if-self.true))
