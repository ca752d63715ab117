-- Seams before what an edit changes.
use Rattle.std.proofs.Common.{◌≡◌, ℕ, zero, suc, ◌+◌, ◌-◌, ◌<◌, ◌≤◌, List, [], ◌∷◌, ◌++◌, length, take, drop, refl}
use Rattle.std.proofs.Common.{ap, ◌∙◌, arith, add-one, append_assoc}
use Rattle.std.proofs.lemmas.List.{length-map, length-take-le, take-append-le}
use denote.RawPtr.{Ptr}
use Rattle.piece_ring.specs.declared.piece.Piece.{Piece}
use Rattle.piece_ring.specs.declared.place.Seam.{Seam}
use Rattle.piece_ring.specs.Flat.{flat}
use Rattle.piece_ring.specs.Nodes.{pieces, with_piece}
use Rattle.piece_ring.specs.Place.{pieces_of, IsSeam}
use Rattle.piece_ring.proofs.Joins.{pieces-append, pieces-take, place-kept}
use Rattle.piece_ring.proofs.Moving.{take-take}
use Rattle.piece_ring.proofs.Runs.{index_order}

front-same : (ns : List (Ptr × Piece)) (a j : ℕ) (rest : List (Ptr × Piece)) → j ≤ a → a < length ns
    → take j (pieces_of (take (a + 1) ns ++ rest)) ≡ take j (pieces_of ns)
front-same [] a j rest h w = absurd (omega (arith, w))
front-same (n ∷ ns) a j rest h w =
    let count = length-map ns (λ (m : Ptr × Piece). m.1) in let long = length-take-le a (pieces ns) (omega arith) in
    ap (λ i. take j (pieces_of (take i (n ∷ ns) ++ rest))) (add-one a)
    ∙ ap (take j) (pieces-append (take a ns) rest ∙ ap (λ l. l ++ pieces rest) (pieces-take a ns))
    ∙ take-append-le j (take a (pieces ns)) (pieces rest) (omega arith) ∙ take-take j a (pieces ns) h

pub seam-before : (ns : List (Ptr × Piece)) (a : ℕ) (rest : List (Ptr × Piece)) (s : Seam) → s.index ≤ a
    → a < length ns → IsSeam ns s → IsSeam (take (a + 1) ns ++ rest) s
seam-before ns a rest s low w h = record {
  place = place-kept ns a s.index rest low w ∙ h.place;
  upto = ap (λ l. length (flat l)) (front-same ns a s.index rest low w) ∙ h.upto;
}

-- no empty pieces, so no more pieces than characters between seams
pub seam_order : (ns : List (Ptr × Piece)) (s t : Seam) → IsSeam ns s → IsSeam ns t → s.pos < t.pos → s.index < t.index
seam_order ns s t h g order = let a = h.upto in let b = g.upto in
    index_order (pieces_of ns) s.index t.index (omega arith)

-- the nodes around a piece that is written
pub take-with-node : (ns : List (Ptr × Piece)) (i : ℕ) (x : Piece) → i < length ns → (n : Ptr × Piece)
    × (take (suc i) (with_piece ns i x) ≡ take i ns ++ n ∷ [])
take-with-node [] i x h = absurd (omega (arith, h))
take-with-node (n ∷ ns) zero x h = ((n.0, x), refl)
take-with-node (n ∷ ns) (suc i) x h = let r = take-with-node ns i x (omega (arith, h)) in
    (r.0, ap (λ l. n ∷ l) r.1)

pub drop-with-past : (ns : List (Ptr × Piece)) (i k : ℕ) (x : Piece) → i < k → drop k (with_piece ns i x) ≡ drop k ns
drop-with-past [] i k x h = refl
drop-with-past (n ∷ ns) i zero x h = absurd (omega (arith, h))
drop-with-past (n ∷ ns) zero (suc k) x h = refl
drop-with-past (n ∷ ns) (suc i) (suc k) x h = drop-with-past ns i k x (omega (arith, h))

-- two pieces that become one: the nodes before the first stay, and those behind the second
pub united-made : (ns ms ws : List (Ptr × Piece)) (i : ℕ) (x : Piece) → 0 < i → i < length ns
    → ws ≡ with_piece ns i x → ms ≡ take (i + 1) ws ++ drop (i + 1 + 1) ws
    → (mid : List (Ptr × Piece)) × (ms ≡ take (i - 1 + 1) ns ++ (mid ++ drop (i + 1 + 1) ns))
united-made ns ms ws i x some w is made =
    let r = take-with-node ns i x w in let e : i ≡ i - 1 + 1 = omega arith in
    let head : take (i + 1) ws ≡ take (i - 1 + 1) ns ++ r.0 ∷ [] = ap (take (i + 1)) is
    ∙ ap (λ n. take n (with_piece ns i x)) (add-one i) ∙ r.1 ∙ ap (λ n. take n ns ++ r.0 ∷ []) e in
    let tail : drop (i + 1 + 1) ws ≡ drop (i + 1 + 1) ns = ap (drop (i + 1 + 1)) is
    ∙ drop-with-past ns i (i + 1 + 1) x (omega arith) in (
      r.0 ∷ [],
      made ∙ (λ k. head k ++ tail k) ∙ append_assoc (take (i - 1 + 1) ns) (r.0 ∷ []) (drop (i + 1 + 1) ns),
    )
