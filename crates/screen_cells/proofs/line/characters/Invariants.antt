use Rattle.screen_pictures.specs.Screen.{column_at}
use Rattle.screen_cells.proofs.Painting.{IsDoneTo}
use Rattle.screen_cells.proofs.line.characters.Given as goal

abbrev pub invariant-loop-x : goal.invariant-loop-x
invariant-loop-x l = IsDoneTo 0 (λ x before. (column_at l.row x).ch) l.initial.bytes l.bytes l.x
