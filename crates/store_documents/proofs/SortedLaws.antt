-- Documents sorted by how they stand, one after another.
use Rattle.std.proofs.Common.{◌∙◌, ◌++◌, ◌∷◌, [], List, ℕ, sym, ap, if◌then◌else◌}
use Rattle.std.proofs.lemmas.List.Elements.{filter-append}
use Rattle.desktop_definitions.specs.Desktop.{Desktop}
use Rattle.store_documents.specs.declared.sorting.Sorted.{Sorted}
use Rattle.store_documents.specs.Standings.{AreSorted, IsPutBehind, standing_of, is_new, is_same, is_other}

module _ (d : Desktop) (document : List ℕ × List ℕ) (before : List (List ℕ × List ℕ)) (old new : Sorted) where
  pub sorted_more : AreSorted d before old → IsPutBehind document (standing_of d document) old new
      → AreSorted d (before ++ document ∷ []) new
  sorted_more sorted added = record {
    fresh = added.fresh_is
        ∙ ap (λ (l : List (List ℕ × List ℕ)). l ++ (if is_new (standing_of d document) then document ∷ [] else []))
        sorted.fresh ∙ sym (filter-append (λ x. is_new (standing_of d x)) before (document ∷ []));
    same = added.same_is
        ∙ ap (λ (l : List (List ℕ × List ℕ)). l ++ (if is_same (standing_of d document) then document ∷ [] else []))
        sorted.same ∙ sym (filter-append (λ x. is_same (standing_of d x)) before (document ∷ []));
    other = added.other_is
        ∙ ap (λ (l : List (List ℕ × List ℕ)). l ++ (if is_other (standing_of d document) then document ∷ [] else []))
        sorted.other ∙ sym (filter-append (λ x. is_other (standing_of d x)) before (document ∷ []));
  }
