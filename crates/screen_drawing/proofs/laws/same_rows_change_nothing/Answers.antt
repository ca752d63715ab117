use Rattle.screen_drawing.proofs.Showing.{nothing_changed}
use Rattle.screen_drawing.proofs.laws.same_rows_change_nothing.Goals as goal

pub returns : goal.returns
returns c = nothing_changed
