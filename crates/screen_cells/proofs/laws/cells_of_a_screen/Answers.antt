use Rattle.screen_cells.proofs.Values.{cell_of}
use Rattle.screen_cells.proofs.laws.cells_of_a_screen.Goals as goal

pub returns : goal.returns
returns c = λ f x y. cell_of f x y
