-- The nearest place at which words are, as it is sought step by step.
use Rattle.std.proofs.Common.{◌≡◌, ◌<◌, ◌≤◌, ◌+◌, ◌-◌, ℕ, zero, suc, true, false, refl, sym, ◌∙◌, ap, subst, arith}
use Rattle.std.proofs.Common.{List, [], ◌∷◌, length, take, Some, None}
use Rattle.std.specs.Str.{bytes_eq}
use Rattle.std.proofs.lemmas.List.{drop_all}
use Rattle.std.specs.List.{find, range_with_len}
use Rattle.std.proofs.lemmas.Bool.{cond-true, cond-false}
use Rattle.desktop_definitions.specs.Effects.{found_at}
use Rattle.sought_words.specs.Places.{found_before, stands_at}

no_words : (words : List ℕ) → 0 < length words → bytes_eq words (take (length words) []) ≡ false
no_words [] some = absurd (omega arith)
no_words (b ∷ words) some = refl

module _ (bytes words : List ℕ) where
  -- ---- upward

  pub found_next : (p : ℕ) → p < length bytes → stands_at bytes words p ≡ false
      → found_at bytes words p ≡ found_at bytes words (p + 1)
  found_next p within out =
      let n : length bytes + 1 - p ≡ suc (length bytes + 1 - (p + 1)) = omega (arith, within) in
      ap (λ (k : ℕ). find (λ (q : ℕ). stands_at bytes words q) (range_with_len p k)) n
      ∙ cond-false (stands_at bytes words p) (Some p) (found_at bytes words (p + 1)) out

  at_end : (p : ℕ) → length bytes ≤ p → 0 < length words → stands_at bytes words p ≡ false
  at_end p long some = ap (λ (l : List ℕ). bytes_eq words (take (length words) l)) (drop_all p bytes long) ∙ no_words words some

  at_most_one : (p n : ℕ) → n ≤ 1 → stands_at bytes words p ≡ false
      → find (λ (q : ℕ). stands_at bytes words q) (range_with_len p n) ≡ None
  at_most_one p zero few out = refl
  at_most_one p (suc zero) few out = cond-false (stands_at bytes words p) (Some p) None out
  at_most_one p (suc (suc n)) few out = absurd (omega arith)

  pub found_none : (p : ℕ) → length bytes ≤ p → 0 < length words → found_at bytes words p ≡ None
  found_none p long some = at_most_one p (length bytes + 1 - p) (omega (arith, long)) (at_end p long some)

  -- ---- downward

  pub found_here : (p : ℕ) → 0 < p → stands_at bytes words (p - 1) ≡ true → found_before bytes words p ≡ Some (p - 1)
  unfolding found_before
  found_here zero some is = absurd (omega arith)
  found_here (suc q) some is =
      let same : suc q - 1 ≡ q = omega arith in
      let there : stands_at bytes words q ≡ true = subst (λ (n : ℕ). stands_at bytes words n ≡ true) same is in
      cond-true (stands_at bytes words q) (Some q) (found_before bytes words q) there ∙ ap Some (sym same)

  pub found_below : (p : ℕ) → 0 < p → stands_at bytes words (p - 1) ≡ false
      → found_before bytes words p ≡ found_before bytes words (p - 1)
  unfolding found_before
  found_below zero some is = absurd (omega arith)
  found_below (suc q) some is =
      let same : suc q - 1 ≡ q = omega arith in
      let out : stands_at bytes words q ≡ false = subst (λ (n : ℕ). stands_at bytes words n ≡ false) same is in
      cond-false (stands_at bytes words q) (Some q) (found_before bytes words q) out
      ∙ ap (λ (n : ℕ). found_before bytes words n) (sym same)

  pub none_below : (p : ℕ) → p ≤ 0 → found_before bytes words p ≡ None
  unfolding found_before
  none_below zero none = refl
  none_below (suc q) none = absurd (omega arith)
