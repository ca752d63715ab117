use Rattle.std.proofs.Common.{◌≡◌, sym, subst, ◌∙◌, ℕ, ◌<◌, length, ◌==◌, rules, tests}
use Rattle.std.specs.List.{position_or_len}
use Rattle.std.proofs.lemmas.Iterator.{YieldsList-from_slice}
use Rattle.std.proofs.lemmas.Iterator.Search.{position_from_yields_List}
use Rattle.viewer_tracks.specs.declared.edges.Edge.{Edge}
use Rattle.viewer_tracks.proofs.Positions.{found_or_length}
use Rattle.viewer_tracks.proofs.Moving.{entry_of-entries_from, placed_within, within_placed}
use Rattle.viewer_tracks.proofs.edges.index_of.Goals as goal

pub returns : goal.returns
returns c =
    let edges = c.args.edges.now in
    let p = λ (e : Edge). e.viewer.0 == c.args.viewer.0 in
    let is : c.unwrap_or.result ≡ position_or_len p edges =
    found_or_length p edges c.unwrap_or.ensures
    (position_from_yields_List p _ _ c.position.result c.position.ensures.ran
    (YieldsList-from_slice edges cc) (λ x b q k. search (rules, tests))) in
    record {
      entry = is ∙ sym (entry_of-entries_from c.args.viewer.0 0 edges);
      placed = (
        λ placed. subst (λ (n : ℕ). n < length edges) (sym is) (placed_within c.args.viewer.0 edges placed),
        λ within. within_placed c.args.viewer.0 edges (subst (λ (n : ℕ). n < length edges) is within),
      );
    }
