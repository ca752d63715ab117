use Rattle.std.proofs.Common.{◌≡◌, rules}
use Rattle.screen_cells.proofs.Keeping.{caret_stays}
use Rattle.screen_cells.proofs.lines.forget_caret.Goals as goal

pub returns-else-kept-number : goal.returns-else-kept-number
returns-else-kept-number c = λ before after same.
    caret_stays before after c.args.number same c.args.caret.now c.in-Some.kept c.in-Some.is c.if-kept-number.false
