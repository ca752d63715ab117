use Rattle.screen_drawing.proofs.Reading.{cell_shown, letter_shown, nothing_beside}
use Rattle.screen_drawing.proofs.laws.cells_are_shown.Goals as goal

pub returns-clause-cells : goal.returns-clause-cells
returns-clause-cells c = cell_shown

pub returns-clause-beside : goal.returns-clause-beside
returns-clause-beside c = nothing_beside

pub returns-clause-below : goal.returns-clause-below
returns-clause-below c = letter_shown
