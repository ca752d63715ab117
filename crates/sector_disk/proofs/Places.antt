-- What is kept at the first places of a list.
use Rattle.std.proofs.Common.{◌≡◌, ◌≢◌, ℕ, zero, suc, ◌+◌, ◌<◌, ◌≤◌, ◌==◌, List, [], ◌∷◌, ◌++◌, length, take, get_or}
use Rattle.std.proofs.Common.{if◌then◌else◌, true, false, refl, sym, ◌∙◌, ap, arith}
use Rattle.std.specs.declared.option.Option.TheVariants.{None, Some}
use Rattle.std.specs.List.{slice_get, slice_set}
use Rattle.std.proofs.lemmas.Bool.Decides.{nat_tests}
use Rattle.std.proofs.lemmas.List.{take-append-le}
use Rattle.sector_disk.specs.Settled.{of_sector, settled_place}

taken_at : {X : Type 0} (l : List X) (u p : ℕ) → p < u → slice_get (take u l) p ≡ slice_get l p
taken_at l zero p low = absurd (omega (arith, low))
taken_at [] (suc u) p low = refl
taken_at (x ∷ l) (suc u) zero low = refl
taken_at (x ∷ l) (suc u) (suc p) low = taken_at l u p (omega (arith, low))

taken_past : {X : Type 0} (l : List X) (u p : ℕ) → u ≤ p → slice_get (take u l) p ≡ None
taken_past [] zero p high = refl
taken_past [] (suc u) p high = refl
taken_past (x ∷ l) zero p high = refl
taken_past (x ∷ l) (suc u) zero high = absurd (omega (arith, high))
taken_past (x ∷ l) (suc u) (suc p) high = taken_past l u p (omega (arith, high))

there : {X : Type 0} (l : List X) (p : ℕ) (x : X) → p < length l → x ≡ get_or l p x → slice_get l p ≡ Some x
there [] p x low is = absurd (omega (arith, low))
there (y ∷ l) zero x low is = ap (λ z. Some z) (sym is)
there (y ∷ l) (suc p) x low is = there l p x (omega (arith, low)) is

module _ (l : List (ℕ × List ℕ)) (u n p : ℕ) where
  pub kept_past : u ≤ p → settled_place (take u l) n p ≡ None
  unfolding settled_place
  kept_past high = ap (of_sector n) (taken_past l u p high)

  module _ (e : ℕ × List ℕ) (low : p < u) (within : u ≤ length l) (is : e ≡ get_or l p e) where
    found : slice_get (take u l) p ≡ Some e
    found = taken_at l u p low ∙ there l p e (omega (arith, low, within)) is

    pub kept_here : e.0 ≡ n → settled_place (take u l) n p ≡ Some e.1
    unfolding settled_place
    kept_here same = ap (of_sector n) found ∙ ap (λ b. if b then Some e.1 else None) (tests e.0 n same)
      where
        tests : (k n : ℕ) → k ≡ n → (k == n) ≡ true
        tests k n same = grind (arith, nat_tests)

    pub kept_other : e.0 ≢ n → settled_place (take u l) n p ≡ None
    unfolding settled_place
    kept_other other = ap (of_sector n) found ∙ ap (λ b. if b then Some e.1 else None) (tests e.0 n other)
      where
        tests : (k n : ℕ) → k ≢ n → (k == n) ≡ false
        tests k n other = grind (arith, nat_tests)

-- one more at the end
pub take_pushed : {X : Type 0} (l : List X) (u : ℕ) (x : X) → u ≤ length l → take u (l ++ x ∷ []) ≡ take u l
take_pushed l u x within = take-append-le u l (x ∷ []) within

-- the place behind the first ones is taken
taken_next : {X : Type 0} (l : List X) (u : ℕ) (x : X) → u < length l → take (suc u) (slice_set l u x) ≡ take u l ++ x ∷ []
taken_next [] u x low = absurd (omega (arith, low))
taken_next (y ∷ l) zero x low = refl
taken_next (y ∷ l) (suc u) x low = ap (λ rest. y ∷ rest) (taken_next l u x (omega (arith, low)))

pub take_next : {X : Type 0} (l : List X) (u : ℕ) (x : X) → u < length l → take (u + 1) (slice_set l u x) ≡ take u l ++ x ∷ []
take_next l u x low = ap (λ n. take n (slice_set l u x)) (let e : u + 1 ≡ suc u = omega arith in e) ∙ taken_next l u x low

pub length-take : {X : Type 0} (l : List X) (u : ℕ) → u ≤ length l → length (take u l) ≡ u
length-take [] zero within = refl
length-take [] (suc u) within = absurd (omega (arith, within))
length-take (x ∷ l) zero within = refl
length-take (x ∷ l) (suc u) within = let rest = length-take l u (omega (arith, within)) in omega (arith, rest)
