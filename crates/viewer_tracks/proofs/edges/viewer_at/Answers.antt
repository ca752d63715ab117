use Rattle.std.proofs.Common.{sym, ap, ◌∙◌, ◌+◌}
use Rattle.viewer_tracks.specs.Edges.{entries_from}
use Rattle.viewer_tracks.specs.Viewers.{viewer_at, entry_viewer}
use Rattle.viewer_tracks.proofs.EdgeLemmas.{lowest_reaching-entries_from}
use Rattle.viewer_tracks.proofs.edges.viewer_at.Goals as goal

pub returns : goal.returns
unfolding viewer_at
returns c =
    let edges = c.args.edges.now in
    let lowest = c.reaching.ensures.lowest
    ∙ sym (lowest_reaching-entries_from edges (c.args.y + 1) c.requires.rising) in
    c.viewer_of.ensures ∙ ap (entry_viewer (entries_from 0 edges)) lowest
