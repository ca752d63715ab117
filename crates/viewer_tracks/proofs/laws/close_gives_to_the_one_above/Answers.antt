use Rattle.viewer_tracks.proofs.RowLemmas.{closes}
use Rattle.viewer_tracks.proofs.laws.close_gives_to_the_one_above.Goals as goal

pub returns : goal.returns
returns c = closes
