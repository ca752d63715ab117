use Rattle.viewer_tracks.proofs.ColumnLemmas.{open_leaves, change_leaves}
use Rattle.viewer_tracks.proofs.laws.edits_leave_the_covered.Goals as goal

pub returns : goal.returns
returns c = record { opened = open_leaves; changed = change_leaves }
