use Rattle.viewer_tracks.proofs.ColumnLemmas.{open_keeps, cover_keeps, change_keeps, close_keeps}
use Rattle.viewer_tracks.proofs.laws.edits_keep_columns.Goals as goal

pub returns : goal.returns
returns c = record { opened = open_keeps; covered = cover_keeps; changed = change_keeps; closed = close_keeps }
