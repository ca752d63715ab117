-- Looks of pieces, by those of their characters.
use Rattle.std.proofs.Common.{◌≡◌, ℕ, zero, suc, ◌<◌, List, [], ◌∷◌, ◌++◌, arith}
use Rattle.std.proofs.lemmas.List.Elements.{All-head, All-tail, All-cons}
use Rattle.piece_ring.specs.declared.piece.Look.{Look}
use Rattle.piece_ring.specs.declared.piece.Piece.{Piece}
use Rattle.piece_ring.specs.Text.{Text}
use Rattle.piece_ring.specs.Flat.{flat, run, characters_of, IsWhole}
use Rattle.desktop_definitions.specs.Looks.{IsLook, AreLooks}
use Rattle.image_format.specs.Image.{AreSome}

look_of_run : (off len : ℕ) (look : Look) (rest : Text ℕ) → 0 < len → AreLooks (run off len look ++ rest) → IsLook look
look_of_run off zero look rest some all = absurd (omega (arith, some))
look_of_run off (suc n) look rest some all =
    All-head (λ (c : ℕ × Look). IsLook c.1) (off, look) (run (suc off) n look ++ rest) all

behind : (text rest : Text ℕ) → AreLooks (text ++ rest) → AreLooks rest
behind [] rest all = all
behind (c ∷ text) rest all = behind text rest (All-tail (λ (c : ℕ × Look). IsLook c.1) c (text ++ rest) all)

module _ (p : Piece) (pieces rest : List Piece) (front : pieces ≡ p ∷ rest) where
  looks_front : AreLooks (flat pieces) → AreLooks (characters_of p ++ flat rest)
  looks_front all = rw front at all

  pub look_of_first : IsWhole p → AreLooks (flat pieces) → IsLook p.look
  look_of_first whole all = look_of_run p.off p.len p.look (flat rest) whole.0 (looks_front all)

  pub looks_of_rest : AreLooks (flat pieces) → AreLooks (flat rest)
  looks_of_rest all = behind (characters_of p) (flat rest) (looks_front all)

  pub some_with_first : IsWhole p → AreSome rest → AreSome pieces
  some_with_first whole some = rw front (All-cons (λ (q : Piece). 0 < q.len) p rest whole.0 some)
