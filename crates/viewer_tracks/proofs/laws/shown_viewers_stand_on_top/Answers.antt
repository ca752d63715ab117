use Rattle.viewer_tracks.proofs.PlacedLemmas.{shown_stands}
use Rattle.viewer_tracks.proofs.laws.shown_viewers_stand_on_top.Goals as goal

pub returns : goal.returns
returns c = shown_stands
