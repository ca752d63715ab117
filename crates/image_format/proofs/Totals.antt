-- How many characters pieces have, and the texts of a table.
use Rattle.std.proofs.Common.{◌≡◌, ◌+◌, List, [], ◌∷◌, ◌++◌, length, refl, arith}
use Rattle.std.proofs.lemmas.List.Sums.{sum_by-cons, sum_by-append}
use Rattle.piece_ring.specs.declared.piece.Piece.{Piece}
use Rattle.piece_ring.specs.Flat.{flat}
use Rattle.piece_ring.proofs.Runs.{length-flat-cons}
use Rattle.image_format.specs.Fitting.{length_of_pieces, totals}

pub length_flat : (pieces : List Piece) → length (flat pieces) ≡ length_of_pieces pieces
length_flat [] = refl
length_flat (p ∷ ps) = omega (arith, length-flat-cons p ps, length_flat ps, sum_by-cons (λ (q : Piece). q.len) p ps)

pub total_push : (pieces : List Piece) (p : Piece) → length_of_pieces (pieces ++ p ∷ []) ≡ length_of_pieces pieces + p.len
total_push pieces p = omega (arith, sum_by-append (λ (q : Piece). q.len) pieces (p ∷ []))

pub totals_push : {K : Type 0} (table : List (K × List Piece)) (e : K × List Piece)
    → totals (table ++ e ∷ []) ≡ totals table + length_of_pieces e.1
totals_push {K} table e = omega (arith, sum_by-append (λ (f : K × List Piece). length_of_pieces f.1) table (e ∷ []))
