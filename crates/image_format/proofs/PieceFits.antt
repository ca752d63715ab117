-- Pieces of a desktop's texts fit, each within what room those before it leave.
use Rattle.std.specs.Prelude.{◌≡◌, ℕ, zero, suc, ◌+◌, ◌<◌, ◌≤◌, List, [], ◌∷◌, ◌++◌, length}
use Rattle.std.specs.Prelude.{All}
use Rattle.std.proofs.Common.{refl, sym, ◌∙◌, arith, length-append}
use Rattle.std.proofs.lemmas.List.Elements.{All-nil, All-cons, All-head, All-tail}
use Rattle.std.proofs.lemmas.List.Sums.{sum_by-cons}
use Rattle.piece_ring.specs.declared.piece.Look.{Look}
use Rattle.piece_ring.specs.declared.piece.Piece.{Piece}
use Rattle.piece_ring.specs.Flat.{flat, run, characters_of}
use Rattle.piece_ring.proofs.Lengths.{length-run}
use Rattle.piece_ring.specs.Text.{Text, AreWithin, renamed}
use Rattle.desktop_definitions.specs.Limits.{most_held}
use Rattle.desktop_definitions.specs.Looks.{IsLook, AreLooks}
use Rattle.desktop_definitions.proofs.FewLaws.{few_some}
use Rattle.image_format.specs.Image.{AreSome}
use Rattle.image_format.specs.Fitting.{Chain, FitsPiece, FitsPieces, less, length_of_pieces}

-- ---- parts of a list

front : {X : Type 0} (P : X → Type 0) (a b : List X) → All P (a ++ b) → All P a
front P [] b all = All-nil P
front P (x ∷ a) b all = All-cons P x a (All-head P x (a ++ b) all) (front P a b (All-tail P x (a ++ b) all))

back : {X : Type 0} (P : X → Type 0) (a b : List X) → All P (a ++ b) → All P b
back P [] b all = all
back P (x ∷ a) b all = back P a b (All-tail P x (a ++ b) all)

-- ---- one piece

run_ends : (n off len : ℕ) (look : Look) → AreWithin n (run off (suc len) look) → off + suc len ≤ n
run_ends n off zero look within = let first = within 0 (off, look) (omega arith) in omega (arith, first)
run_ends n off (suc len) look within =
    let rest = run_ends n (suc off) len look
    (All-tail (λ (c : ℕ × Look). c.0 < n) (off, look) (run (suc off) (suc len) look) within) in
    omega (arith, rest)

run_look : (off len : ℕ) (look : Look) → AreLooks (run off (suc len) look) → IsLook look
run_look off len look looks = looks 0 (off, look) (omega arith)

-- the end of a piece, and its look, by its characters
piece_ends : (n off len : ℕ) (look : Look) → 0 < len → AreWithin n (run off len look) → off + len ≤ n
piece_ends n off zero look some within = absurd (omega (arith, some))
piece_ends n off (suc len) look some within = run_ends n off len look within

piece_look : (off len : ℕ) (look : Look) → 0 < len → AreLooks (run off len look) → IsLook look
piece_look off zero look some looks = absurd (omega (arith, some))
piece_look off (suc len) look some looks = run_look off len look looks

-- ---- the pieces of a text

-- looks don't depend on the characters among which a text is seen
pub kept_looks : {X Y : Type 0} (f : X → Y) (text : Text X) → AreLooks (renamed f text) → AreLooks text
kept_looks {X} f [] looks = All-nil (λ (c : X × Look). IsLook c.1)
kept_looks {X} {Y} f (c ∷ text) looks = All-cons (λ (c : X × Look). IsLook c.1) c text
    (All-head (λ (c : Y × Look). IsLook c.1) (f c.0, c.1) (renamed f text) looks)
    (kept_looks f text (All-tail (λ (c : Y × Look). IsLook c.1) (f c.0, c.1) (renamed f text) looks))

pub length_flat : (pieces : List Piece) → length (flat pieces) ≡ length_of_pieces pieces
length_flat [] = refl
length_flat (p ∷ ps) = length-append (characters_of p) (flat ps)
    ∙ (λ k. length-run p.off p.len p.look k + length_flat ps k)
    ∙ sym (sum_by-cons (λ (q : Piece). q.len) p ps)

-- each piece has a character
pub few_pieces : (pieces : List Piece) → AreSome pieces → length pieces ≤ length_of_pieces pieces
few_pieces pieces some = few_some (λ (p : Piece). p.len) pieces some

-- What fits of a text: its pieces have characters, of those that were written, in looks that there are.
pub record IsFitting (written : ℕ) (pieces : List Piece) : Type 0 where
  pub some : AreSome pieces
  pub within : AreWithin written (flat pieces)
  pub looks : AreLooks (flat pieces)

without_first : (written : ℕ) (p : Piece) (ps : List Piece) → IsFitting written (p ∷ ps) → IsFitting written ps
without_first written p ps text = record {
  some = All-tail (λ (q : Piece). 0 < q.len) p ps text.some;
  within = back (λ (c : ℕ × Look). c.0 < written) (characters_of p) (flat ps) text.within;
  looks = back (λ (c : ℕ × Look). IsLook c.1) (characters_of p) (flat ps) text.looks;
}

chain_fits : (written room : ℕ) (pieces : List Piece) → IsFitting written pieces → length_of_pieces pieces ≤ room
    → Chain (FitsPiece written) less room pieces
chain_fits written room [] text low = tt
chain_fits written room (p ∷ ps) text low =
    let sum = sum_by-cons (λ (q : Piece). q.len) p ps in
    let some : 0 < p.len = text.some 0 p (omega arith) in (
      record {
        some = some;
        short = omega (arith, low, sum);
        inside = piece_ends written p.off p.len p.look some
            (front (λ (c : ℕ × Look). c.0 < written) (characters_of p) (flat ps) text.within);
        look = piece_look p.off p.len p.look some
            (front (λ (c : ℕ × Look). IsLook c.1) (characters_of p) (flat ps) text.looks);
      },
      chain_fits written (less room p) ps (without_first written p ps text) (omega (arith, low, sum)),
    )

pub pieces_fit : (written room : ℕ) (pieces : List Piece) → IsFitting written pieces → length_of_pieces pieces ≤ room
    → room ≤ most_held → FitsPieces written room pieces
pieces_fit written room pieces text low small =
    let few = few_pieces pieces text.some in
    (omega (arith, few, low, small), chain_fits written room pieces text low)
