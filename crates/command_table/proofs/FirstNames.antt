-- The first names of a list are those of its first symbols.
use Rattle.std.specs.Prelude.{◌≡◌, ℕ, zero, suc, ◌+◌, ◌<◌, ◌≤◌, ◌⊎◌, List, [], ◌∷◌, length, take, drop}
use Rattle.std.specs.Prelude.{Option, Some, None}
use Rattle.std.proofs.Common.{refl, sym, ap, ◌∙◌, arith, inl, inr}
use Rattle.std.proofs.lemmas.Bool.{cases_lt}
use Rattle.std.proofs.lemmas.List.{take_all, length-drop}
use Rattle.readers_scanners.specs.Form.{form, longest_form, first_symbol, after_blanks, symbol}
use Rattle.readers_scanners.specs.declared.symbol.Symbol.{Symbol}
use Rattle.command_table.specs.Deciding.{most_names}
use Rattle.command_table.specs.Parameters.{name_in, names_on, names_from, some_names, first_names}

-- a form has a byte
longest_by : (bs : List ℕ) (n : ℕ) (o : Option Symbol) → form (take (suc n) bs) ≡ o → longest_form bs (suc n)
    ≡ (elim o [ Some s ↦ Some (s, suc n) | None ↦ longest_form bs n ])
longest_by bs n o is = ap (λ (x : Option Symbol). (let l : Option (Symbol × ℕ) =
    elim x [ Some s ↦ Some (s, suc n) | None ↦ longest_form bs n ] in l)) is

some_size : (bs : List ℕ) (n : ℕ) (found : Symbol × ℕ) → longest_form bs n ≡ Some found → 0 < found.1
some_size bs zero found is = absurd (let wrong : ⊥ = cc in wrong)
some_size bs (suc n) found is = by_form (some_size bs n found) (form (take (suc n) bs)) refl where
  by_form : (longest_form bs n ≡ Some found → 0 < found.1) → (o : Option Symbol) → form (take (suc n) bs) ≡ o
      → 0 < found.1
  by_form fewer None e = fewer (sym (longest_by bs n None e) ∙ is)
  by_form fewer (Some s) e =
      let both = sym (longest_by bs n (Some s) e) ∙ is in
      let same : (s, suc n) ≡ found = cc both in
      let size : suc n ≡ found.1 = ap (λ (x : Symbol × ℕ). x.1) same in omega (arith, size)

-- the bytes that begin with a name are some
name_first : (bs : List ℕ) (name : List ℕ) → name_in (first_symbol bs).0 ≡ Some name
    → (0 < length bs) × (0 < (first_symbol bs).1)
name_first [] name is = absurd (let wrong : ⊥ = cc in wrong)
name_first (b ∷ bs) name is = by_form (longest_form (b ∷ bs) (length (b ∷ bs))) refl where
  by_form : (o : Option (Symbol × ℕ)) → longest_form (b ∷ bs) (length (b ∷ bs)) ≡ o
      → (0 < length (b ∷ bs)) × (0 < (first_symbol (b ∷ bs)).1)
  by_form None e = absurd (let wrong : ⊥ = (let at = (rw e at is) in cc) in wrong)
  by_form (Some found) e =
      let some = some_size (b ∷ bs) (length (b ∷ bs)) found e in
      ((let lt : 0 < length (b ∷ bs) = omega arith in lt), rw e some)

-- a name ends after the position from which it was looked for, which is within the bytes
name_on : (bs : List ℕ) (p : ℕ) (name : List ℕ) → name_in (symbol bs p).0 ≡ Some name
    → (p < length bs) × (p < (symbol bs p).1)
unfolding symbol
name_on bs p name is =
    let start : ℕ = after_blanks bs p in
    let both = name_first (drop start bs) name is in
    let size = length-drop start bs in
    (omega (arith, both.0, size), omega (arith, both.1))

module _ (bs : List ℕ) where
  more_by : (n : ℕ) (found : Symbol × ℕ) (o : Option (List ℕ)) → name_in found.0 ≡ o → names_on bs (suc n) found
      ≡ (elim o [ Some name ↦ name ∷ names_on bs n (symbol bs found.1) | None ↦ [] ])
  unfolding names_on
  more_by n found o is = ap (λ (x : Option (List ℕ)). (let l : List (List ℕ) =
      elim x [ Some name ↦ name ∷ names_on bs n (symbol bs found.1) | None ↦ [] ] in l)) is

  no_more : (found : Symbol × ℕ) → names_on bs 0 found ≡ []
  unfolding names_on
  no_more found = refl

  -- of fewer symbols the first names
  first_on : (m n : ℕ) (found : Symbol × ℕ) → m ≤ n → names_on bs m found ≡ take m (names_on bs n found)
  first_on zero n found le = no_more found
  first_on (suc m) zero found le = absurd (let wrong : ⊥ = omega (arith, le) in wrong)
  first_on (suc m) (suc n) found le =
      by_name (first_on m n (symbol bs found.1) (omega (arith, le))) (name_in found.0) refl where
        by_name : names_on bs m (symbol bs found.1) ≡ take m (names_on bs n (symbol bs found.1)) → (o : Option (List ℕ))
            → name_in found.0 ≡ o → names_on bs (suc m) found ≡ take (suc m) (names_on bs (suc n) found)
        by_name fewer None e = more_by m found None e ∙ sym (ap (take (suc m)) (more_by n found None e))
        by_name fewer (Some name) e = more_by m found (Some name) e ∙ ap (λ l. name ∷ l) fewer
            ∙ sym (ap (take (suc m)) (more_by n found (Some name) e))

  few_on : (n : ℕ) (found : Symbol × ℕ) → length (names_on bs n found) ≤ n
  few_on zero found = let none = ap length (no_more found) in omega (arith, none)
  few_on (suc n) found = by_name (few_on n (symbol bs found.1)) (name_in found.0) refl where
    by_name : length (names_on bs n (symbol bs found.1)) ≤ n → (o : Option (List ℕ)) → name_in found.0 ≡ o
        → length (names_on bs (suc n) found) ≤ suc n
    by_name few None e = let none = ap length (more_by n found None e) in omega (arith, none)
    by_name few (Some name) e = let one = ap length (more_by n found (Some name) e) in omega (arith, one, few)

  -- as many symbols as there are bytes left are all
  all_on : (m n p : ℕ) → length bs ≤ m + p → m ≤ n → names_on bs n (symbol bs p) ≡ names_on bs m (symbol bs p)
  all_on zero zero p left le = refl
  all_on zero (suc n) p left le = by_name (name_in (symbol bs p).0) refl where
    by_name : (o : Option (List ℕ)) → name_in (symbol bs p).0 ≡ o
        → names_on bs (suc n) (symbol bs p) ≡ names_on bs 0 (symbol bs p)
    by_name None e = more_by n (symbol bs p) None e ∙ sym (no_more (symbol bs p))
    by_name (Some name) e = let on = name_on bs p name e in absurd (let wrong : ⊥ = omega (arith, left, on.0) in wrong)
  all_on (suc m) zero p left le = absurd (let wrong : ⊥ = omega (arith, le) in wrong)
  all_on (suc m) (suc n) p left le =
      by_name (λ q more. all_on m n q more (omega (arith, le))) (name_in (symbol bs p).0) refl where
        by_name : ((q : ℕ) → length bs ≤ m + q → names_on bs n (symbol bs q) ≡ names_on bs m (symbol bs q))
            → (o : Option (List ℕ)) → name_in (symbol bs p).0 ≡ o
            → names_on bs (suc n) (symbol bs p) ≡ names_on bs (suc m) (symbol bs p)
        by_name later None e = more_by n (symbol bs p) None e ∙ sym (more_by m (symbol bs p) None e)
        by_name later (Some name) e =
            let on = name_on bs p name e in
            more_by n (symbol bs p) (Some name) e
            ∙ ap (λ l. name ∷ l) (later (symbol bs p).1 (omega (arith, left, on.1)))
            ∙ sym (more_by m (symbol bs p) (Some name) e)

  first_of : (most p : ℕ) → names_on bs most (symbol bs p) ≡ take most (names_from bs p)
  first_of most p = by_length (cases_lt (length bs) most) where
    by_length : (length bs < most) ⊎ (most ≤ length bs)
        → names_on bs most (symbol bs p) ≡ take most (names_from bs p)
    by_length (inl short) =
        let few = few_on (length bs) (symbol bs p) in
        all_on (length bs) most p (omega arith) (omega (arith, short))
        ∙ sym (take_all most (names_from bs p) (omega (arith, short, few)))
    by_length (inr long) = first_on most (length bs) (symbol bs p) long

some_first : (l : List (List ℕ)) → some_names (take most_names l) ≡ first_names (some_names l)
some_first [] = refl
some_first (name ∷ names) = refl

-- the first names from a position on, where there are some
pub first_of_some : (bs : List ℕ) (p : ℕ) → some_names (names_on bs most_names (symbol bs p))
    ≡ first_names (some_names (names_from bs p))
first_of_some bs p = ap some_names (first_of bs most_names p) ∙ some_first (names_from bs p)
