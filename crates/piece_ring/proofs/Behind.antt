-- What stands before a cursor that goes backwards.
use Rattle.std.proofs.Common.{◌≡◌, ℕ, zero, suc, ◌+◌, ◌-◌, ◌≤◌, List, [], ◌∷◌, ◌++◌, length, take, drop, slice_get}
use Rattle.std.proofs.Common.{Some, refl, sym, ap, ◌∙◌, arith, add-one, append_assoc}
use Rattle.std.proofs.Math.Seq.{take-append-add}
use Rattle.std.proofs.lemmas.List.{append-nil}
use denote.RawPtr.{Ptr}
use Rattle.piece_ring.specs.declared.piece.Look.{Look}
use Rattle.piece_ring.specs.declared.piece.Piece.{Piece}
use Rattle.piece_ring.specs.declared.place.Found.{Found}
use Rattle.piece_ring.specs.declared.place.Seam.{Seam}
use Rattle.piece_ring.specs.BackCursor.{text_before}
use Rattle.piece_ring.specs.Flat.{run, characters_of, flat}
use Rattle.piece_ring.specs.Nodes.{pieces}
use Rattle.piece_ring.specs.Place.{pieces_of, text_along, IsSeam, IsFound}
use Rattle.piece_ring.specs.PieceList.{IsPieceList}
use Rattle.piece_ring.specs.Text.{Text}
use Rattle.piece_ring.proofs.Dividing.{drop_at, first_part, found_long}
use Rattle.piece_ring.proofs.Runs.{run-append, flat-append, flat-cut}
use Rattle.piece_ring.proofs.Seams.{seam-take, behind_trailer}

take_one : {X : Type 0} (xs : List X) (k : ℕ) (x : X) → slice_get xs k ≡ Some x → take (suc k) xs ≡ take k xs ++ x ∷ []
take_one [] k x e = cc
take_one (y ∷ xs) zero x e = cc
take_one (y ∷ xs) (suc k) x e = ap (λ l. y ∷ l) (take_one xs k x e)

-- the characters of one piece more
flat_last : (ps : List Piece) (k : ℕ) (x : Piece) → slice_get ps k ≡ Some x
    → flat (take (suc k) ps) ≡ flat (take k ps) ++ characters_of x
flat_last ps k x e = ap flat (take_one ps k x e) ∙ flat-append (take k ps) (x ∷ [])
    ∙ ap (λ l. flat (take k ps) ++ l) (append-nil (characters_of x))

-- the piece before a seam
pub before_seam : (ns : List (Ptr × Piece)) (s t : Seam) (x : Piece) → t.index ≡ s.index + 1
    → slice_get (pieces ns) t.index ≡ Some x → text_before ns s x ≡ flat (take t.index (pieces_of ns))
before_seam ns s t x next is =
    sym (ap (λ n. flat (take n (pieces_of ns))) (next ∙ add-one s.index)
    ∙ flat_last (pieces_of ns) s.index x
    (behind_trailer ns s.index x (ap (slice_get (pieces ns)) (sym next) ∙ is)))

-- a seam, and no character of the piece after it
pub at_seam : (ns : List (Ptr × Piece)) (s : Seam) (pos : ℕ) → IsSeam ns s → s.pos ≡ pos
    → flat (take s.index (pieces_of ns)) ++ [] ≡ take pos (text_along ns)
at_seam ns s pos h e =
    append-nil (flat (take s.index (pieces_of ns))) ∙ sym (seam-take ns s h) ∙ ap (λ n. take n (text_along ns)) e

take_run : (off n k : ℕ) (l : Look) (rest : Text ℕ) → k ≤ n → take k (run off n l ++ rest) ≡ run off k l
take_run off n zero l rest h = refl
take_run off zero (suc k) l rest h = absurd (let bad : ⊥ = omega (arith, h) in bad)
take_run off (suc n) (suc k) l rest h = ap (λ t. (off, l) ∷ t) (take_run (suc off) n k l rest (omega (arith, h)))

-- the front of a piece that was found
pub in_found : (ns : List (Ptr × Piece)) (trailer : Ptr) (count len pos : ℕ) (f : Found) (x : Piece)
    → IsPieceList ns trailer count len → IsFound ns pos f → slice_get (pieces ns) f.after.index ≡ Some x
    → text_before ns f.before (first_part x (pos - f.before.pos)) ≡ take pos (text_along ns)
in_found ns trailer count len pos f x v h is =
    let ps = pieces_of ns in let k = f.before.index in let n : ℕ = pos - f.before.pos in
    let long = found_long ns trailer count len pos f x v h is in
    let start = h.before.upto in let low = h.from in let high = h.upto in
    let rest : flat (drop k ps) ≡ characters_of x ++ flat (drop (k + 1) ps) =
    ap flat (drop_at ps k x (behind_trailer ns k x (ap (slice_get (pieces ns)) (sym h.next) ∙ is))) in
    let cut : take (length (flat (take k ps)) + n) (flat ps) ≡ flat (take k ps) ++ run x.off n x.look =
    ap (take (length (flat (take k ps)) + n)) (flat-cut ps k)
    ∙ take-append-add (flat (take k ps)) (flat (drop k ps)) n
    ∙ ap (λ l. flat (take k ps) ++ l)
    (ap (take n) rest ∙ take_run x.off x.len n x.look (flat (drop (k + 1) ps)) (omega (arith, long, low, high))) in
    sym cut ∙ ap (λ m. take m (flat ps)) (let e : length (flat (take k ps)) + n ≡ pos = omega (arith, start, low) in e)

-- the character that the cursor stands after
pub last_of_front : (ns : List (Ptr × Piece)) (s : Seam) (off n m : ℕ) (l : Look) → n ≡ m + 1
    → flat (take s.index (pieces_of ns)) ++ run off n l
    ≡ (flat (take s.index (pieces_of ns)) ++ run off m l) ++ (off + m, l) ∷ []
last_of_front ns s off n m l e =
    ap (λ k. flat (take s.index (pieces_of ns)) ++ run off k l) e
    ∙ ap (λ r. flat (take s.index (pieces_of ns)) ++ r) (run-append off m 1 l)
    ∙ sym (append_assoc (flat (take s.index (pieces_of ns))) (run off m l) ((off + m, l) ∷ []))
