use Rattle.std.proofs.Common.{◌≡◌, replicate}
use Rattle.screen_drawing.specs.declared.pen.TheConstants.{WHITE}
use Rattle.screen_drawing.specs.Pen.{blank_face}
use Rattle.screen_drawing.proofs.painter.blank_rows.Given as goal

abbrev pub invariant-loop : goal.invariant-loop
invariant-loop l = l.rows.items ≡ replicate l.counter (replicate l.fn.width (blank_face WHITE))
