use Rattle.screen_pictures.specs.Picture.{filler}
use Rattle.screen_cells.proofs.Painting.{IsDoneTo}
use Rattle.screen_cells.proofs.putting.put_same.Given as goal

abbrev pub invariant-loop-x : goal.invariant-loop-x
invariant-loop-x l = IsDoneTo filler (λ x before. l.cell) l.initial.cells l.cells l.x
