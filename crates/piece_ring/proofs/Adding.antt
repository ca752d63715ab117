-- A piece is put in behind the others, and neighbours are made one there.
use Rattle.std.proofs.Common.{◌≡◌, inl, inr, ℕ, ◌+◌, List, [], ◌∷◌, ◌++◌, length, take, drop, slice_get, Some, refl}
use Rattle.std.proofs.Common.{sym, ap, ◌∙◌, arith, append_assoc, length-append}
use Rattle.std.proofs.Math.Seq.{take-length, take-append_seam}
use Rattle.piece_ring.specs.declared.piece.Piece.{Piece}
use Rattle.piece_ring.specs.Flat.{flat}
use Rattle.piece_ring.specs.Merging.{Continues, IsMergedAt, UnitesAtMost, AddsAtMost}
use Rattle.piece_ring.specs.Nodes.{with_put_in}
use Rattle.piece_ring.proofs.Keeping.{get-append}

nothing_left : {X : Type 0} (xs : List X) → drop (length xs) xs ≡ []
nothing_left [] = refl
nothing_left (x ∷ xs) = nothing_left xs

-- put in at the end
pub put_last : {made : List Piece} (old : List Piece) {others : List Piece} {n : ℕ} {piece : Piece}
    → made ≡ with_put_in n others old → n ≡ length old → others ≡ piece ∷ [] → made ≡ old ++ piece ∷ []
put_last {made} old {others} {n} {piece} is last alone =
    is ∙ (λ k. with_put_in (last k) (alone k) old)
    ∙ (λ k. take-length old k ++ (piece ∷ []) ++ nothing_left old k) ∙ append_assoc old (piece ∷ []) []

-- where the last but one is followed by the last, in a list of two more
two_last : (front : List Piece) (p q : Piece) → (slice_get (front ++ p ∷ q ∷ []) (length front) ≡ Some p)
    × (slice_get (front ++ p ∷ q ∷ []) (length front + 1) ≡ Some q)
two_last front p q = (
  ap (slice_get (front ++ p ∷ q ∷ [])) (let e : length front ≡ length front + 0 = omega arith in e)
      ∙ get-append front (p ∷ q ∷ []) 0,
  get-append front (p ∷ q ∷ []) 1,
)

pub added_at_most : {made old new : List Piece} {piece : Piece} {pos : ℕ} → made ≡ old ++ piece ∷ []
    → UnitesAtMost made new → pos ≡ length (flat old) → IsMergedAt new pos → AddsAtMost old piece new
added_at_most {made} {old} {new} {piece} {pos} is united here merged = elim united [
  | inl same ↦ record {
    one = inl (same ∙ is);
    none = λ front last old_is continues. absurd (apart front last old_is (same ∙ is) continues);
  }
  | inr less ↦ (let long : length new ≡ length old = fewer less in record { one = inr long; none = λ _ _ _ _. long })
]
  where
    fewer : length new + 1 ≡ length made → length new ≡ length old
    fewer less = let all = ap length is ∙ length-append old (piece ∷ []) in omega (arith, less)

    apart : (front : List Piece) (last : Piece) → old ≡ front ++ last ∷ [] → new ≡ old ++ piece ∷ []
        → ¬ Continues last piece
    apart front last old_is new_is =
        let whole : new ≡ front ++ last ∷ piece ∷ [] =
        new_is ∙ ap (λ l. l ++ piece ∷ []) old_is ∙ append_assoc front (last ∷ []) (piece ∷ []) in
        let two = two_last front last piece in
        let upto : take (length front + 1) new ≡ old =
        ap (take (length front + 1)) new_is
        ∙ ap (λ n. take n (old ++ piece ∷ [])) (sym (ap length old_is ∙ length-append front (last ∷ [])))
        ∙ take-append_seam old (piece ∷ []) in
        merged (length front) last piece (ap (λ l. slice_get l (length front)) whole ∙ two.0)
        (ap (λ l. slice_get l (length front + 1)) whole ∙ two.1)
        (ap (λ l. length (flat l)) upto ∙ sym here)
