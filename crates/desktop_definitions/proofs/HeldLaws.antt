-- Laws of what a desktop holds once a viewer opened with two new texts, and another one went.
use Rattle.std.specs.Prelude.{◌≡◌, ℕ, ◌+◌, ◌==◌, ◌||◌, Bool, true, false, cond, List, [], ◌∷◌, length, filter}
use Rattle.std.specs.Prelude.{Option, Some, None}
use Rattle.std.specs.List.{list_any}
use Rattle.std.specs.Map.{lookup, keys_of, values_of, remove_entry}
use Rattle.std.specs.Ordering.{nat_cmp, match_ordering, is_eq}
use Rattle.std.specs.declared.cmp.Ordering.TheVariants.{Less, Equal, Greater}
use Rattle.std.specs.BTreeMap.{is_at, insert_entry}
use Rattle.std.proofs.Common.{refl, ap, ◌∙◌, arith}
use Rattle.std.proofs.lemmas.Bool.{eq-eqb}
use Rattle.std.proofs.lemmas.List.Sums.{sum_by-cons}
use Rattle.piece_ring.specs.Text.{Text}
use Rattle.desktop_definitions.specs.Tables.{Texts, lengths}
use Rattle.desktop_definitions.proofs.PlaceLaws.{at_other}

or_swap : (a b c : Bool) → a || (b || c) ≡ b || (a || c)
or_swap true true c = refl
or_swap true false c = refl
or_swap false b c = refl

-- ---- tests of entries

module _ {X : Type 0} (test : X → Bool) (v : ℕ) (x : X) where
  abbrev any : List (ℕ × X) → Bool
  any es = list_any (λ e. test e.1) es

  abbrev look : List (ℕ × X) → Option X
  look es = lookup (is_at (nat_cmp v)) es

  pub any_put : (es : List (ℕ × X)) → look es ≡ None → any (insert_entry nat_cmp es v x) ≡ test x || any es
  any_put [] none = refl
  any_put (e ∷ es) none = (elim (nat_cmp v e.0) as
      (λ o. (let y : Option X = cond (is_eq o) (Some e.1) (look es) in y) ≡ None
      → any (match_ordering o ((v, x) ∷ e ∷ es) ((e.0, x) ∷ es) (e ∷ insert_entry nat_cmp es v x))
      ≡ test x || any (e ∷ es)) [
        | Less ↦ λ none. refl
        | Equal ↦ λ none. absurd cc
        | Greater ↦ λ none. ap (λ b. test e.1 || b) (any_put es none) ∙ or_swap (test e.1) (test x) (any es)
      ]) none

  abbrev without : ℕ → List (ℕ × X) → List (ℕ × X)
  without g es = remove_entry (is_at (nat_cmp g)) es

  pub any_put_without : (g : ℕ) (es : List (ℕ × X)) → ¬ (g ≡ v) → look es ≡ None
      → any (without g (insert_entry nat_cmp es v x)) ≡ test x || any (without g es)
  any_put_without g [] apart none = rw (at_other g v apart) refl
  any_put_without g (e ∷ es) apart none = (elim (nat_cmp v e.0) as
      (λ o. (let y : Option X = cond (is_eq o) (Some e.1) (look es) in y) ≡ None
      → any (without g (match_ordering o ((v, x) ∷ e ∷ es) ((e.0, x) ∷ es) (e ∷ insert_entry nat_cmp es v x)))
      ≡ test x || any (without g (e ∷ es))) [
        | Less ↦ λ none. rw (at_other g v apart) refl
        | Equal ↦ λ none. absurd cc
        | Greater ↦ λ none. elim (is_at (nat_cmp g) e.0) as
            (λ b. any (let l : List (ℕ × X) = cond b (insert_entry nat_cmp es v x)
            (e ∷ without g (insert_entry nat_cmp es v x)) in l)
            ≡ test x || any (let l : List (ℕ × X) = cond b es (e ∷ without g es) in l)) [
              | true ↦ any_put es none
              | false ↦ ap (λ b. test e.1 || b) (any_put_without g es apart none)
                  ∙ or_swap (test e.1) (test x) (any (without g es))
            ]
      ]) none

-- ---- lengths of what stays

pub lengths_put : (test : ℕ → Bool) (es : Texts (Text ℕ)) (n : ℕ) (x : Text ℕ)
    → lookup (is_at (nat_cmp n)) es ≡ None → test n ≡ true
    → lengths (filter (λ e. test e.0) (insert_entry nat_cmp es n x))
    ≡ lengths (filter (λ e. test e.0) es) + length x
lengths_put test [] n x none is = rw is (sum_by-cons length x [] ∙ omega arith)
lengths_put test (e ∷ es) n x none is = (elim (nat_cmp n e.0) as
    (λ o. (let y : Option (Text ℕ) = cond (is_eq o) (Some e.1) (lookup (is_at (nat_cmp n)) es) in y) ≡ None
    → lengths (filter (λ e. test e.0)
    (match_ordering o ((n, x) ∷ e ∷ es) ((e.0, x) ∷ es) (e ∷ insert_entry nat_cmp es n x)))
    ≡ lengths (filter (λ e. test e.0) (e ∷ es)) + length x) [
      | Less ↦ λ none. rw is
          (sum_by-cons length x (values_of (filter (λ e. test e.0) (e ∷ es))) ∙ omega arith)
      | Equal ↦ λ none. absurd cc
      | Greater ↦ λ none. (let rest = lengths_put test es n x none is in
          elim (test e.0) as
          (λ b. lengths (let l : Texts (Text ℕ) = cond b (e ∷ filter (λ e. test e.0) (insert_entry nat_cmp es n x))
          (filter (λ e. test e.0) (insert_entry nat_cmp es n x)) in l)
          ≡ lengths (let l : Texts (Text ℕ) = cond b (e ∷ filter (λ e. test e.0) es)
          (filter (λ e. test e.0) es) in l) + length x) [
            | true ↦ (let new = sum_by-cons length e.1 (values_of (filter (λ e. test e.0)
                (insert_entry nat_cmp es n x))) in
                let old = sum_by-cons length e.1 (values_of (filter (λ e. test e.0) es)) in
                omega (arith, new, old, rest))
            | false ↦ rest
          ])
    ]) none

right_of : (a b : Bool) → b ≡ true → a || b ≡ true
right_of true b is = refl
right_of false b is = is

pub filter_alike : {X : Type 0} (p q : ℕ → Bool) (es : List (ℕ × X))
    → ((k : ℕ) → list_any (λ j. j == k) (keys_of es) ≡ true → p k ≡ q k)
    → filter (λ e. p e.0) es ≡ filter (λ e. q e.0) es
filter_alike p q [] alike = refl
filter_alike {X} p q (e ∷ es) alike =
    let rest = filter_alike p q es (λ k there. alike k (right_of (e.0 == k) _ there)) in
    let here = alike e.0 (λ i. eq-eqb e.0 e.0 refl i || list_any (λ j. j == e.0) (keys_of es)) in
    λ i. (let l : List (ℕ × X) = cond (here i) (e ∷ rest i) (rest i) in l)
