use Rattle.std.proofs.Common.{List, ap, sym, ◌∙◌}
use Rattle.std.specs.Prelude.{slice_get}
use Rattle.viewer_tracks.specs.Viewers.{Entry}
use Rattle.viewer_tracks.specs.Columns.{track_on}
use Rattle.viewer_tracks.proofs.PlacedLemmas.{entry_placed}
use Rattle.viewer_tracks.proofs.tracks.Tracks.entry_in.Goals as goal

pub returns-clause-placed : goal.returns-clause-placed
returns-clause-placed c =
    entry_placed c.args.self.now c.args.track c.args.level c.args.index _ c.requires.some c.requires.within
    (sym (ap (λ (t : List Entry). slice_get t c.args.index)
    (c.track.ensures ∙ ap (λ (s : List (List Entry)). track_on s c.args.level) c.stack.ensures)) ∙ c.entry.ensures)
