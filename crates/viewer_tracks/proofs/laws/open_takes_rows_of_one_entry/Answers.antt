use Rattle.viewer_tracks.proofs.RowLemmas.{opens}
use Rattle.viewer_tracks.proofs.laws.open_takes_rows_of_one_entry.Goals as goal

pub returns : goal.returns
returns c = opens
