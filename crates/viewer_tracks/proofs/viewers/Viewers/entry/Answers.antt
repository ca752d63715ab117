use Rattle.std.proofs.Common.{◌≡◌, length, ap, arith}
use Rattle.viewer_tracks.proofs.HeightLemmas.{as_many_edges}
use Rattle.viewer_tracks.proofs.viewers.Viewers.entry.Goals as goal

pub entry-requires-clause-in_bounds : goal.entry-requires-clause-in_bounds
entry-requires-clause-in_bounds c =
    let slice : length c.as_slice.result.now ≡ length c.self.inside.edges = ap length c.as_slice.ensures in
    let many = as_many_edges c.self.inside.edges in
    let view = ap length c.self.view_is in
    let within = c.requires in
    let same = c.from.ensures in
    omega (arith, slice, many, view, within, same)
