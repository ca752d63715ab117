use Rattle.std.proofs.Common.{false, arith}
use Rattle.terminal_keyboard.proofs.Hearings.{front_within, line_some, line_within}
use Rattle.terminal_keyboard.proofs.hearing.line_length.Goals as goal

pub returns-clause-within : goal.returns-clause-within
returns-clause-within c = let h = line_within false c.args.heard.now in omega (arith, h, c.first_end.ensures)

pub returns-clause-some : goal.returns-clause-some
returns-clause-some c some = let h = line_some false c.args.heard.now some in omega (arith, h, c.first_end.ensures)

pub returns-clause-line : goal.returns-clause-line
returns-clause-line c = front_within false c.first_end.result c.args.heard.now (omega (arith, c.first_end.ensures))
