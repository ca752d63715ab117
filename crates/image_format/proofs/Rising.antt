-- Tables that grow at their ends, by rising keys.
use Rattle.std.proofs.Common.{◌≡◌, ℕ, suc, ◌+◌, ◌-◌, ◌≤◌, nat_le, Bool, true, List, [], ◌∷◌, ◌++◌, length, Option, Some}
use Rattle.std.proofs.Common.{None, refl, sym, ap, ◌∙◌, arith, slice_get}
use Rattle.std.specs.Cmp.{nat_cmp_is, IsTotalOrder}
use Rattle.std.specs.List.{AllByRecursion}
use Rattle.std.specs.Map.{keys_of}
use Rattle.std.specs.BTreeMap.{insert_entry}
use Rattle.std.specs.Cmp.Lexicographic.{slice_partial_cmp}
use Rattle.std.specs.Ordering.{is_lt, nat_cmp, ordering_reverse, as_partial_cmp, partial_ordering_then, ordering_then}
use Rattle.std.specs.Ordering.{is_some_and}
use Rattle.std.specs.declared.cmp.Ordering.{Ordering}
use Rattle.std.specs.declared.cmp.Ordering.TheVariants.{Less, Equal, Greater}
use Rattle.std.proofs.lemmas.Bool.{leb-true, le-leb}
use Rattle.std.proofs.lemmas.Cmp.{lists_total, nat_cmp_total}
use Rattle.desktop_definitions.specs.Tables.{name_cmp}
use Rattle.image_format.specs.Fitting.{follows}
use Rattle.image_format.specs.Steps.{last_key}

-- ---- a key that is above all others is put at the end

-- no key is k or above it
abbrev pub AreBelow : {K X : Type 0} → (K → K → Ordering) → List (K × X) → K → Type 0
AreBelow cmp table k = AllByRecursion (λ y. cmp y k ≡ Less) (keys_of table)

pub insert_last : {K X : Type 0} {cmp : K → K → Ordering} → IsTotalOrder cmp → (table : List (K × X)) (k : K) (x : X)
    → AreBelow cmp table k → insert_entry cmp table k x ≡ table ++ (k, x) ∷ []
insert_last o [] k x below = refl
insert_last {K} {X} {cmp} o (e ∷ es) k x below =
    let greater : cmp k e.0 ≡ Greater = o.antisymm k e.0 ∙ ap ordering_reverse below.0 in
    rw greater (ap (λ (t : List (K × X)). e ∷ t) (insert_last o es k x below.1))

below_push : {K X : Type 0} (cmp : K → K → Ordering) (table : List (K × X)) (k : K) (x : X) (n : K)
    → AreBelow cmp table n
    → cmp k n ≡ Less → AreBelow cmp (table ++ (k, x) ∷ []) n
below_push cmp [] k x n below less = (less, tt)
below_push cmp (e ∷ es) k x n below less = (below.0, below_push cmp es k x n below.1 less)

-- ---- what is read next comes after all that was read, where it passes a test

-- all keys are below what passes in the state s
abbrev pub Waits : {K X S : Type 0} → (K → K → Ordering) → (S → K → Bool) → List (K × X) → S → Type 0
Waits {K} cmp passes table s = (n : K) → passes s n ≡ true → AreBelow cmp table n

-- what passes after k passes before it too, and is above k
abbrev pub IsRising : {K S : Type 0} → (K → K → Ordering) → (S → K → Bool) → (S → K → S) → Type 0
IsRising {K} {S} cmp passes after = (s : S) (k n : K) → passes s k ≡ true → passes (after s k) n ≡ true
    → (passes s n ≡ true) × (cmp k n ≡ Less)

pub waits_on : {K X S : Type 0} (cmp : K → K → Ordering) (passes : S → K → Bool) (after : S → K → S)
    → IsRising cmp passes after → (table : List (K × X)) (s : S) (k : K) (x : X) → passes s k ≡ true
    → Waits cmp passes table s → Waits cmp passes (table ++ (k, x) ∷ []) (after s k)
waits_on cmp passes after rising table s k x passed waits n later =
    let r = rising s k n passed later in below_push cmp table k x n (waits n r.0) r.1

-- ---- numbers

abbrev pub after_number : ℕ → ℕ → ℕ
after_number s n = n + 1

pub numbers_rise : IsRising nat_cmp nat_le after_number
numbers_rise s k n passed later =
    let below : s ≤ k = leb-true s k passed in
    let above : k + 1 ≤ n = leb-true (k + 1) n later in
    (le-leb s n (omega (arith, below, above)), sym (nat_cmp_is k n Less (omega (arith, above))))

-- ---- names

less_of : (o : Ordering) → is_lt o ≡ true → o ≡ Less
less_of Less is = refl
less_of Equal is = absurd cc
less_of Greater is = absurd cc

abbrev pub after_name : Option (List ℕ) → List ℕ → Option (List ℕ)
after_name s name = Some name

pub names_rise : IsRising name_cmp follows after_name
names_rise None k n passed later = (refl, less_of (name_cmp k n) later)
names_rise (Some before) k n passed later =
    let above : name_cmp k n ≡ Less = less_of (name_cmp k n) later in
    (ap is_lt ((lists_total nat_cmp_total).trans before k n (less_of (name_cmp before k) passed) above), above)

-- ---- the last key

pub last_key_push : {K X : Type 0} (table : List (K × X)) (k : K) (x : X) → last_key (table ++ (k, x) ∷ []) ≡ Some k
last_key_push [] k x = refl
last_key_push (e ∷ []) k x = refl
last_key_push (e ∷ (f ∷ es)) k x = last_key_push (f ∷ es) k x

last_of : {K X : Type 0} (e : K × X) (es : List (K × X)) (p : K × X) → slice_get (e ∷ es) (length es) ≡ Some p
    → last_key (e ∷ es) ≡ Some p.0
last_of e [] p is = cc
last_of e (f ∷ es) p is = last_of f es p is

pub last_key_is : {K X : Type 0} (table : List (K × X)) (p : K × X) → slice_get table (length table - 1) ≡ Some p
    → last_key table ≡ Some p.0
last_key_is [] p is = absurd cc
last_key_is (e ∷ es) p is = let k : suc (length es) - 1 ≡ length es = omega arith in
    last_of e es p (ap (slice_get (e ∷ es)) (sym k) ∙ is)

-- ---- names by `<`

-- names can always be compared
compared : (xs ys : List ℕ) → slice_partial_cmp (as_partial_cmp nat_cmp) xs ys ≡ Some (name_cmp xs ys)
compared [] [] = refl
compared [] (y ∷ ys) = refl
compared (x ∷ xs) [] = refl
compared (x ∷ xs) (y ∷ ys) = elim (nat_cmp x y) as (λ o.
    partial_ordering_then (Some o) (slice_partial_cmp (as_partial_cmp nat_cmp) xs ys)
    ≡ Some (ordering_then o (name_cmp xs ys))) [
      | Less ↦ refl
      | Equal ↦ compared xs ys
      | Greater ↦ refl
    ]

pub name_lt : (xs ys : List ℕ) → is_some_and is_lt (slice_partial_cmp (as_partial_cmp nat_cmp) xs ys)
    ≡ is_lt (name_cmp xs ys)
name_lt xs ys = ap (is_some_and is_lt) (compared xs ys)
