-- A viewer goes from the table.
use Rattle.std.proofs.Common.{◌≡◌, ℕ, suc, ◌+◌, ◌<◌, ◌≤◌, Bool, true, false, cond, not, ◌==◌, List, [], ◌∷◌, length}
use Rattle.std.proofs.Common.{refl, sym, ap, ◌∙◌, arith, unwrap_or, is_some, ◌||◌}
use Rattle.std.specs.Prelude.{remove}
use Rattle.std.specs.List.{position_or_len, position, list_any, range_with_len}
use Rattle.std.specs.Map.{remove_entry, keys_of, lookup}
use Rattle.std.specs.Ordering.{nat_cmp}
use Rattle.std.specs.BTreeMap.{is_at}
use Rattle.std.proofs.lemmas.Bool.Decides.{nat_tests}
use Rattle.std.proofs.lemmas.List.FromFn.{length-range_with_len}
use Rattle.std.proofs.lemmas.List.Sums.{prefix_len-le-length}
use Rattle.std.proofs.lemmas.Map.Entries.{length-keys_of}
use Rattle.std.proofs.lemmas.Map.Made.{is_some-lookup}
use Rattle.desktop_definitions.specs.declared.viewer.Viewer.{Viewer}
use Rattle.desktop_definitions.specs.Opening.{least_unused}
use Rattle.desktop_definitions.proofs.PlaceLaws.{at_is, any_at}

same_test : (id k : ℕ) (b : Bool) → (k == id) ≡ b → is_at (nat_cmp id) k ≡ b
same_test id k b is = at_is id k ∙ is

pub taken_out : (id : ℕ) (es : List (ℕ × Viewer)) → position_or_len (λ e. e.0 == id) es < length es
    → remove es (position_or_len (λ e. e.0 == id) es) ≡ remove_entry (is_at (nat_cmp id)) es
taken_out id [] within = absurd (omega arith)
taken_out id (e ∷ es) within = (elim (e.0 == id) as (λ b. (e.0 == id) ≡ b
    → cond (not b) (1 + position_or_len (λ e. e.0 == id) es) 0 < length (e ∷ es)
    → remove (e ∷ es) (cond (not b) (1 + position_or_len (λ e. e.0 == id) es) 0)
    ≡ remove_entry (is_at (nat_cmp id)) (e ∷ es)) [
      | true ↦ λ is within. rw (same_test id e.0 true is) refl
      | false ↦ λ is within.
          (let next : 1 + position_or_len (λ e. e.0 == id) es ≡ suc (position_or_len (λ e. e.0 == id) es) =
          omega arith in
          rw (next, same_test id e.0 false is)
          (ap (λ (l : List (ℕ × Viewer)). e ∷ l) (taken_out id es (omega arith))))
    ]) refl within

pub none_out : (id : ℕ) (es : List (ℕ × Viewer)) → length es ≤ position_or_len (λ e. e.0 == id) es
    → es ≡ remove_entry (is_at (nat_cmp id)) es
none_out id [] past = refl
none_out id (e ∷ es) past = (elim (e.0 == id) as (λ b. (e.0 == id) ≡ b
    → length (e ∷ es) ≤ cond (not b) (1 + position_or_len (λ e. e.0 == id) es) 0
    → e ∷ es ≡ remove_entry (is_at (nat_cmp id)) (e ∷ es)) [
      | true ↦ λ is past. absurd (omega arith)
      | false ↦ λ is past. rw (same_test id e.0 false is)
          (ap (λ (l : List (ℕ × Viewer)). e ∷ l) (none_out id es (omega arith)))
    ]) refl past

-- ---- positions

-- a place that passes, or the length where there is none
pub place_or_length : {X : Type 0} (p : X → Bool) (xs : List X)
    → unwrap_or (position p xs) (length xs) ≡ position_or_len p xs
place_or_length p xs =
    let within : position_or_len p xs ≤ length xs = prefix_len-le-length _ xs in
    grind (arith, nat_tests)

pub place_in_range : (p : ℕ → Bool) (n : ℕ)
    → unwrap_or (position p (range_with_len 0 n)) n ≡ position_or_len p (range_with_len 0 n)
place_in_range p n =
    (λ k. unwrap_or (position p (range_with_len 0 n)) (sym (length-range_with_len 0 n) k))
    ∙ place_or_length p (range_with_len 0 n)

any_key : {X : Type 0} (n : ℕ) (es : List (ℕ × X)) → list_any (λ e. e.0 == n) es ≡ list_any (λ k. k == n) (keys_of es)
any_key n [] = refl
any_key n (e ∷ es) = ap (λ b. (e.0 == n) || b) (any_key n es)

pub unused_by_id : {X : Type 0} (es : List (ℕ × X))
    → position_or_len (λ n. not (list_any (λ e. e.0 == n) es)) (range_with_len 0 (length es)) ≡ least_unused
    (keys_of es)
unused_by_id es =
    (λ k. position_or_len (λ n. not (any_key n es k)) (range_with_len 0 (sym (length-keys_of es) k)))

pub unused_by_number : {X : Type 0} (es : List (ℕ × X))
    → position_or_len (λ n. not (is_some (lookup (is_at (nat_cmp n)) es))) (range_with_len 0 (length es))
    ≡ least_unused (keys_of es)
unused_by_number es =
    (λ k. position_or_len (λ n. not ((is_some-lookup (is_at (nat_cmp n)) es ∙ any_at n (keys_of es)) k))
    (range_with_len 0 (sym (length-keys_of es) k)))
