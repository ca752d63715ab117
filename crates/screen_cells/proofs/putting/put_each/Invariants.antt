use Rattle.screen_pictures.specs.Picture.{filler, line_cell}
use Rattle.screen_cells.proofs.Painting.{IsDoneTo}
use Rattle.screen_cells.proofs.putting.put_each.Given as goal

abbrev pub invariant-loop-x : goal.invariant-loop-x
invariant-loop-x l = IsDoneTo filler
    (λ x before. line_cell l.line l.row.caret l.row.selection x l.row.row) l.initial.cells l.cells l.x
