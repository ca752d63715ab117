use Rattle.text_frames.proofs.AtCells.{at_cell, at_cell_only}
use Rattle.text_frames.proofs.laws.positions_are_at_cells.Goals as goal

pub returns : goal.returns
returns c bs org column row p h = (at_cell bs org column row p h, at_cell_only bs org column row p)
