use Rattle.viewer_tracks.proofs.LevelLemmas.{IsFurtherDown}
use Rattle.viewer_tracks.proofs.levels.index_with.Given as goal

abbrev pub invariant-loop-index : goal.invariant-loop-index
invariant-loop-index l = IsFurtherDown l.tracks l.top l.viewer.0 l.index

abbrev pub decreases-loop-index : goal.decreases-loop-index
decreases-loop-index l = l.index
