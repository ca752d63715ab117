-- The least number that passes a test.
use Rattle.std.specs.Prelude.{◌≡◌, ℕ, zero, suc, ◌+◌, ◌<◌, ◌≤◌, Bool, true, false, if◌then◌else◌, Some, None, IfSome}
use Rattle.std.proofs.Common.{refl, sym, ap, subst, ◌∙◌, arith}
use Rattle.caret_moves.specs.Calling.{first_where}

module _ (test : ℕ → Bool) where
  pub passes : (p n k : ℕ) → first_where test p n ≡ Some k → test k ≡ true
  unfolding first_where
  passes p zero k is = absurd (cc is)
  passes p (suc n) k is = (elim (test p) as (λ (b : Bool). test p ≡ b
      → (if b then Some p else first_where test (p + 1) n) ≡ Some k → test k ≡ true) [
        | true ↦ λ here found. subst (λ (q : ℕ). test q ≡ true) (let e : p ≡ k = cc found in e) here
        | false ↦ λ none found. passes (p + 1) n k found
      ]) refl is

  pub before_end : (p n k : ℕ) → first_where test p n ≡ Some k → k < p + n
  unfolding first_where
  before_end p zero k is = absurd (cc is)
  before_end p (suc n) k is = (elim (test p) as (λ (b : Bool). test p ≡ b
      → (if b then Some p else first_where test (p + 1) n) ≡ Some k → k < p + suc n) [
        | true ↦ λ here found. (let e : p ≡ k = cc found in omega (arith, e))
        | false ↦ λ none found. (let low = before_end (p + 1) n k found in omega (arith, low))
      ]) refl is

  module _ (p n m : ℕ) (more : n ≡ suc m) where
    pub goes_on : test p ≡ false → first_where test p n ≡ first_where test (p + 1) m
    unfolding first_where
    goes_on none = ap (first_where test p) more
        ∙ ap (λ (b : Bool). if b then Some p else first_where test (p + 1) m) none

    pub ends_here : test p ≡ true → Some p ≡ first_where test p n
    unfolding first_where
    ends_here here = sym (ap (first_where test p) more
        ∙ ap (λ (b : Bool). if b then Some p else first_where test (p + 1) m) here)

  pub ends_none : (p n : ℕ) → n ≡ 0 → None ≡ first_where test p n
  unfolding first_where
  ends_none p n is = sym (ap (first_where test p) is)

  pub all_within : (p n bound : ℕ) → p + n ≤ bound → IfSome (first_where test p n) (λ k. k ≤ bound)
  unfolding first_where
  all_within p zero bound low = tt
  all_within p (suc n) bound low = elim (test p) as (λ (b : Bool).
      IfSome (if b then Some p else first_where test (p + 1) n) (λ k. k ≤ bound)) [
        | true ↦ omega (arith, low)
        | false ↦ all_within (p + 1) n bound (omega (arith, low))
      ]
