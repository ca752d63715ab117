use Rattle.std.proofs.Common.{sym, ap, ◌∙◌, Some}
use Rattle.viewer_tracks.specs.declared.edges.Edge.{Edge}
use Rattle.viewer_tracks.specs.Viewers.{id_number}
use Rattle.viewer_tracks.proofs.Opening.{viewer_of-entries_from, viewer_of-past}
use Rattle.viewer_tracks.proofs.edges.viewer_of.Goals as goal

pub returns-in_err-edge : goal.returns-in_err-edge
returns-in_err-edge c =
    ap id_number c.from_residual.ensures
    ∙ sym (viewer_of-past 0 c.args.edges.now c.args.index c.in_err-edge.ensures.lookup.3)

pub returns : goal.returns
returns c =
    ap (λ (e : Edge). Some e.viewer.0) c.in_ok-edge.ensures.lookup.1
    ∙ sym (viewer_of-entries_from 0 c.args.edges.now c.args.index c.in_ok-edge.edge.now c.in_ok-edge.ensures.lookup.3.0)
