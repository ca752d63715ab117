-- What is told of looks tells all.
use Rattle.std.proofs.Common.{◌≡◌, ℕ, Bool, true, false, cond, List, [], ◌∷◌, Option, Some, None, refl, sym, ap, subst}
use Rattle.std.proofs.lemmas.Bool.{and_parts}
use Rattle.std.specs.Cmp.{unsigned_Decides, signed_Decides}
use Rattle.piece_ring.specs.declared.piece.Look.{Look}
use Rattle.piece_ring.specs.Text.{Text}
use Rattle.store_documents.specs.Markup.{is_that_look, look_told, text_told, turned_text}

-- looks that are told to be the same are
same_is : (a b : Look) → is_that_look a b ≡ true → a ≡ b
same_is a b same =
    let (font, rest) = and_parts _ _ same in
    let (colour, voff) = and_parts _ _ rest in
    λ k. record {
      font = (unsigned_Decides a.font b.font).0 font k;
      colour = (unsigned_Decides a.colour b.colour).0 colour k;
      voff = (signed_Decides a.voff b.voff).0 voff k;
    }

pub told_all : (before : Look) (text : Text ℕ) → text_told before (turned_text before text) ≡ text
told_all before [] = refl
told_all before (c ∷ text) = by_case (is_that_look before c.1) refl (told_all c.1 text)
  where
    by_case : (same : Bool) → is_that_look before c.1 ≡ same → text_told c.1 (turned_text c.1 text) ≡ text
        → (let told : Option Look = cond same None (Some c.1) in
        let all : Text ℕ = (c.0, look_told before told) ∷ text_told (look_told before told) (turned_text c.1 text) in all)
        ≡ c ∷ text
    by_case true is rest =
        subst (λ (look : Look). (let all : Text ℕ = (c.0, look) ∷ text_told look (turned_text c.1 text) in all) ≡ c ∷ text)
        (sym (same_is before c.1 is)) (ap (λ (t : Text ℕ). c ∷ t) rest)
    by_case false is rest = ap (λ (t : Text ℕ). c ∷ t) rest
