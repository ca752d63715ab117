use Rattle.viewer_tracks.proofs.PlacedLemmas.{open_shows, cover_shows, change_shows, close_shows}
use Rattle.viewer_tracks.proofs.laws.edits_show_viewers.Goals as goal

pub returns : goal.returns
returns c = record { opened = open_shows; covered = cover_shows; changed = change_shows; closed = close_shows }
