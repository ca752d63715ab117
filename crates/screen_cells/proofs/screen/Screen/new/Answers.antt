use Rattle.screen_cells.proofs.Values.{all_same}
use Rattle.screen_cells.proofs.screen.Screen.new.Goals as goal

pub returns : goal.returns
returns c = all_same _ _ c.filler.ensures
