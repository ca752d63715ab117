use Rattle.viewer_tracks.proofs.RowLemmas.{changes}
use Rattle.viewer_tracks.proofs.laws.change_moves_one_border.Goals as goal

pub returns : goal.returns
returns c = changes
