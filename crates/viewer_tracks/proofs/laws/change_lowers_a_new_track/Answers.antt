use Rattle.viewer_tracks.proofs.ColumnLemmas.{change_lowers}
use Rattle.viewer_tracks.proofs.laws.change_lowers_a_new_track.Goals as goal

pub returns : goal.returns
returns c = change_lowers
