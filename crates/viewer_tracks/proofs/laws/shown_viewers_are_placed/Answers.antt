use Rattle.viewer_tracks.proofs.PlacedLemmas.{shown_placed}
use Rattle.viewer_tracks.proofs.laws.shown_viewers_are_placed.Goals as goal

pub returns : goal.returns
returns c = shown_placed
