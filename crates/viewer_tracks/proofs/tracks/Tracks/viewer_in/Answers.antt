use Rattle.std.proofs.Common.{List, ap, ◌∙◌}
use Rattle.viewer_tracks.specs.Viewers.{Entry, entry_viewer}
use Rattle.viewer_tracks.specs.Columns.{topmost}
use Rattle.viewer_tracks.proofs.PlacedLemmas.{nth_shown}
use Rattle.viewer_tracks.proofs.tracks.Tracks.viewer_in.Goals as goal

pub returns-clause-shown : goal.returns-clause-shown
returns-clause-shown c =
    nth_shown c.args.self.now c.args.track c.nth.result c.args.index
    (c.nth.ensures
    ∙ ap (λ (t : List Entry). entry_viewer t c.args.index) (c.shown.ensures ∙ ap topmost c.stack.ensures))
