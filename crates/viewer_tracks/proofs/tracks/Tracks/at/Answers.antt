use Rattle.std.proofs.Common.{List, ap, ◌∙◌}
use Rattle.viewer_tracks.specs.Viewers.{Entry, viewer_at}
use Rattle.viewer_tracks.specs.Columns.{topmost}
use Rattle.viewer_tracks.proofs.ColumnLemmas.{columns}
use Rattle.viewer_tracks.proofs.PlacedLemmas.{seen_stands}
use Rattle.viewer_tracks.proofs.tracks.Tracks.at.Goals as goal

pub returns-clause-stands : goal.returns-clause-stands
returns-clause-stands c =
    seen_stands (columns c.self.inside.user c.self.inside.system) c.args.self.now c.at.result c.at-2.result
    c.args.x c.args.y c.self.invariant c.self.view_is c.at.ensures
    (c.at-2.ensures ∙ ap (λ (t : List Entry). viewer_at t c.args.y) (c.shown.ensures ∙ ap topmost c.stack.ensures))
