use Rattle.viewer_tracks.proofs.PlacedLemmas.{seen_placed}
use Rattle.viewer_tracks.proofs.laws.seen_viewers_stand_there.Goals as goal

pub returns : goal.returns
returns c = seen_placed
