use Rattle.std.proofs.Common.{◌≡◌, ◌∙◌, ◌+◌, ◌-◌, ℕ, Some, ap, arith, slice_index_or}
use Rattle.viewer_tracks.specs.declared.edges.Edge.{Edge}
use Rattle.viewer_tracks.specs.Viewers.{bottom_of}
use Rattle.viewer_tracks.specs.Edges.{entries_from}
use Rattle.viewer_tracks.specs.Heights.{as_entry}
use Rattle.viewer_tracks.proofs.HeightLemmas.{entry_there, begins_below}
use Rattle.viewer_tracks.proofs.edges.entry.Goals as goal

pub overflow_sub-result : goal.overflow_sub-result
overflow_sub-result c =
    let none : Edge = record { viewer = record { 0 = 0 }; top = 0 } in
    let below = begins_below 0 c.args.edges.now c.args.index none c.requires.rising c.requires.in_bounds in
    let value = c.bottom.ensures.value in
    omega (arith, below, value)

pub returns : goal.returns
returns c =
    let none : Edge = record { viewer = record { 0 = 0 }; top = 0 } in
    let edge = slice_index_or c.args.edges.now c.args.index none in
    let value = c.bottom.ensures.value in
    let same : 0 + bottom_of (entries_from 0 c.args.edges.now) c.args.index ≡ c.bottom.result = omega (arith, value) in
    entry_there 0 c.args.edges.now c.args.index none c.requires.rising c.requires.in_bounds
    ∙ ap (λ (n : ℕ). Some (as_entry (edge.viewer, edge.top - n))) same
