use Rattle.std.proofs.Common.{◌≡◌, ◌∙◌, ◌≤◌, length, ap, sym, arith}
use Rattle.viewer_tracks.specs.declared.display.TheConstants.{ROWS}
use Rattle.viewer_tracks.proofs.HeightLemmas.{few_viewers, as_many_edges}
use Rattle.viewer_tracks.proofs.viewers.Viewers.count.Goals as goal

few : (c : goal.After-as_slice) → length c.as_slice.result.now ≤ ROWS
few c =
    let same : length c.as_slice.result.now ≡ length c.self.inside.edges = ap length c.as_slice.ensures in
    let here = few_viewers c.self.inside.edges c.self.invariant in
    omega (arith, same, here)

pub overflow_cast-result : goal.overflow_cast-result
overflow_cast-result c = let here = few c in omega (arith, here)

pub returns-clause-count : goal.returns-clause-count
returns-clause-count c =
    ap length c.as_slice.ensures ∙ sym (as_many_edges c.self.inside.edges) ∙ ap length c.self.view_is

pub returns-clause-few : goal.returns-clause-few
returns-clause-few c = few c
