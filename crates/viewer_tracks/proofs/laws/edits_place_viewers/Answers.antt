use Rattle.viewer_tracks.proofs.PlacedLemmas.{open_places, cover_places, change_places, close_places}
use Rattle.viewer_tracks.proofs.laws.edits_place_viewers.Goals as goal

pub returns : goal.returns
returns c = record { opened = open_places; covered = cover_places; changed = change_places; closed = close_places }
