use Rattle.viewer_tracks.proofs.ColumnLemmas.{close_uncovers}
use Rattle.viewer_tracks.proofs.laws.close_uncovers.Goals as goal

pub returns : goal.returns
returns c = close_uncovers
