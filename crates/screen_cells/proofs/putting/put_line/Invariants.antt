use Rattle.std.specs.Prelude.{slice_get}
use Rattle.screen_pictures.specs.Picture.{filler, cell_with}
use Rattle.screen_cells.proofs.Painting.{IsDoneTo}
use Rattle.screen_cells.proofs.putting.put_line.Given as goal

abbrev pub invariant-loop-x : goal.invariant-loop-x
invariant-loop-x l = IsDoneTo filler (λ x before. cell_with l.blank (slice_get l.line x) l.mark) l.initial.cells l.cells
    l.x
