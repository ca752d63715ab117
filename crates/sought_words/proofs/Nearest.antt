-- The nearest place is found, onward and backward, and none only where there is none.
use Rattle.std.proofs.Common.{◌≡◌, ◌<◌, ◌≤◌, ◌+◌, ◌-◌, ℕ, zero, suc, Bool, true, false, refl, subst, arith}
use Rattle.std.proofs.Common.{List, length, Some, None}
use Rattle.std.specs.Prelude.{Option, IfSome, if◌then◌else◌}
use Rattle.std.specs.List.{find, range_with_len}
use Rattle.desktop_definitions.specs.Effects.{found_at}
use Rattle.sought_words.specs.Places.{found_before, stands_at}
use Rattle.sought_words.specs.Nearest.{IsLeastFrom, IsGreatestBefore, LeastIsFound, GreatestIsFound}

-- what holds at p, and of all above it, holds from p on
from_there : (P : ℕ → Type 0) (p r n : ℕ) → r - p ≡ n → p ≤ r → P p → (p + 1 ≤ r → P r) → P r
from_there P p r zero is low at above =
    let same : p ≡ r = omega (arith, is, low) in
    subst P same at
from_there P p r (suc n) is low at above = above (omega (arith, is, low))

-- what holds at q, and of all below it, holds up to q
up_to_there : (P : ℕ → Type 0) (q r n : ℕ) → q - r ≡ n → r ≤ q → P q → (r < q → P r) → P r
up_to_there P q r zero is high at below =
    let same : q ≡ r = omega (arith, is, high) in
    subst P same at
up_to_there P q r (suc n) is high at below = below (omega (arith, is, high))

module _ (bytes words : List ℕ) where
  abbrev IsOut : ℕ → Type 0
  IsOut r = stands_at bytes words r ≡ false

  -- ---- onward

  abbrev Onward : ℕ → ℕ → Option ℕ → Type 0
  Onward p n found = IfSome found (IsLeastFrom bytes words p)
      × (found ≡ None → (r : ℕ) → p ≤ r → r < p + n → IsOut r)

  onward_by : (p n : ℕ) (b : Bool) (found : Option ℕ) → stands_at bytes words p ≡ b → Onward (p + 1) n found
      → Onward p (suc n) (if b then Some p else found)
  onward_by p n true found is rest = (
    record {
      from = omega arith;
      there = is;
      least = λ r low high. absurd (omega (arith, low, high));
    },
    λ none. absurd cc,
  )
  onward_by p n false None is rest = (
    tt,
    λ none r low high. from_there IsOut p r (r - p) refl low is
        (λ above. rest.1 refl r above (omega (arith, high))),
  )
  onward_by p n false (Some q) is rest = (
    record {
      from = omega (arith, rest.0.from);
      there = rest.0.there;
      least = λ r low high. from_there IsOut p r (r - p) refl low is (λ above. rest.0.least r above high);
    },
    λ none. absurd cc,
  )

  onward : (p n : ℕ) → Onward p n (find (λ (q : ℕ). stands_at bytes words q) (range_with_len p n))
  onward p zero = (tt, λ none r low high. absurd (omega (arith, low, high)))
  onward p (suc n) = onward_by p n (stands_at bytes words p)
      (find (λ (q : ℕ). stands_at bytes words q) (range_with_len (p + 1) n)) refl (onward (p + 1) n)

  -- ---- backward

  abbrev Backward : ℕ → Option ℕ → Type 0
  Backward p found = IfSome found (IsGreatestBefore bytes words p)
      × (found ≡ None → (r : ℕ) → r < p → IsOut r)

  backward_by : (q : ℕ) (b : Bool) (found : Option ℕ) → stands_at bytes words q ≡ b → Backward q found
      → Backward (suc q) (if b then Some q else found)
  backward_by q true found is rest = (
    record {
      before = omega arith;
      there = is;
      greatest = λ r low high. absurd (omega (arith, low, high));
    },
    λ none. absurd cc,
  )
  backward_by q false None is rest = (
    tt,
    λ none r high. up_to_there IsOut q r (q - r) refl (omega (arith, high)) is (λ below. rest.1 refl r below),
  )
  backward_by q false (Some s) is rest = (
    record {
      before = omega (arith, rest.0.before);
      there = rest.0.there;
      greatest = λ r low high. up_to_there IsOut q r (q - r) refl (omega (arith, high)) is
          (λ below. rest.0.greatest r low below);
    },
    λ none. absurd cc,
  )

  backward : (p : ℕ) → Backward p (found_before bytes words p)
  unfolding found_before
  backward zero = (tt, λ none r high. absurd (omega (arith, high)))
  backward (suc q) = backward_by q (stands_at bytes words q) (found_before bytes words q) refl (backward q)

pub least_is_found : LeastIsFound
least_is_found bytes words p =
    let all : Onward bytes words p (length bytes + 1 - p) (found_at bytes words p)
    = onward bytes words p (length bytes + 1 - p) in
    (all.0, λ none r low high. all.1 none r low (omega (arith, low, high)))

pub greatest_is_found : GreatestIsFound
greatest_is_found bytes words p = backward bytes words p
