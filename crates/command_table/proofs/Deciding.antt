-- More names than files: one is no file's, or one is named twice.
use Rattle.std.specs.Prelude.{ℕ, ◌≡◌, ◌+◌, ◌<◌, ◌≤◌, ◌⊎◌, Bool, true, false, ◌&&◌, not, List, [], ◌∷◌, length}
use Rattle.std.specs.Prelude.{take}
use Rattle.std.specs.List.{list_all, IsDistinct, AllByRecursion}
use Rattle.std.specs.Str.{bytes_eq}
use Rattle.std.proofs.Common.{refl, sym, ap, ◌∙◌, arith, inl, inr}
use Rattle.std.proofs.lemmas.Bool.{cases_lt}
use Rattle.std.proofs.lemmas.Cmp.{nat_list_eq_equiv}
use Rattle.std.proofs.lemmas.List.{take_all, length-take-le}
use Rattle.std.proofs.lemmas.Map.Made.{length-le_from_is_member}
use Rattle.std.proofs.lemmas.Slice.Eq.{bytes_eq-Decides}
use Rattle.command_table.specs.Deciding.{is_among, are_distinct, can_be_deleted, most_files, most_names}
use Rattle.command_table.specs.Deciding.{FirstNamesDecide}

and_both : (a b : Bool) → (a && b) ≡ true → (a ≡ true) × (b ≡ true)
and_both true b h = (refl, h)
and_both false b h = cc

apart : (name : List ℕ) (names : List (List ℕ)) → not (is_among names name) ≡ true
    → AllByRecursion (λ other. bytes_eq name other ≡ false) names
apart name [] h = tt
apart name (other ∷ names) h = by_same (apart name names) (bytes_eq name other) refl where
  by_same : (not (is_among names name) ≡ true → AllByRecursion (λ other. bytes_eq name other ≡ false) names)
      → (b : Bool) → bytes_eq name other ≡ b → AllByRecursion (λ other. bytes_eq name other ≡ false) (other ∷ names)
  by_same later true e = (let no : false ≡ true = rw e at h in cc)
  by_same later false e = (e, later (rw e at h))

distinct : (names : List (List ℕ)) → are_distinct names ≡ true → IsDistinct bytes_eq names
unfolding IsDistinct
distinct [] h = tt
distinct (name ∷ names) h = let both = and_both (not (is_among names name)) (are_distinct names) h in
    (apart name names both.0, distinct names both.1)

members : (files names : List (List ℕ)) → list_all (is_among files) names ≡ true → (name : List ℕ)
    → is_among names name ≡ true → is_among files name ≡ true
members files [] all name h = cc
members files (other ∷ names) all name h = by_same (members files names both.1 name) (bytes_eq name other) refl where
  both : (is_among files other ≡ true) × (list_all (is_among files) names ≡ true)
  both = and_both (is_among files other) (list_all (is_among files) names) all

  by_same : (is_among names name ≡ true → is_among files name ≡ true) → (b : Bool) → bytes_eq name other ≡ b
      → is_among files name ≡ true
  by_same later true e = ap (is_among files) ((bytes_eq-Decides name other).0 e) ∙ both.0
  by_same later false e = later (rw e at h)

too_many : (files names : List (List ℕ)) → length files < length names → can_be_deleted files names ≡ false
too_many files names more = by_answer (can_be_deleted files names) refl where
  by_answer : (b : Bool) → can_be_deleted files names ≡ b → can_be_deleted files names ≡ false
  by_answer false e = e
  by_answer true e =
      let both = and_both (list_all (is_among files) names) (are_distinct names) e in
      let few = length-le_from_is_member nat_list_eq_equiv names files (distinct names both.1)
      (members files names both.0) in
      absurd (omega (arith, more, few))

decide : (most : ℕ) (files names : List (List ℕ)) → length files + 1 ≤ most → can_be_deleted files (take most names)
    ≡ can_be_deleted files names
decide most files names few = by_length (cases_lt most (length names)) where
  by_length : (most < length names) ⊎ (length names ≤ most) → can_be_deleted files (take most names)
      ≡ can_be_deleted files names
  by_length (inl more) =
      let size = length-take-le most names (omega (arith, more)) in
      too_many files (take most names) (omega (arith, size, few))
      ∙ sym (too_many files names (omega (arith, more, few)))
  by_length (inr fits) = ap (can_be_deleted files) (take_all most names fits)

pub first_names_decide : FirstNamesDecide
first_names_decide files names few =
    decide most_names files names (let le : length files + 1 ≤ most_names = omega (arith, few) in le)

-- where a list is one of files it is read whole
pub all_are_read : (files names : List (List ℕ)) → length files ≤ most_files → can_be_deleted files names ≡ true
    → take most_names names ≡ names
all_are_read files names few can = by_length (cases_lt (length files) (length names)) where
  by_length : (length files < length names) ⊎ (length names ≤ length files) → take most_names names ≡ names
  by_length (inl more) = let bad : true ≡ false = sym can ∙ too_many files names more in
      absurd (let wrong : ⊥ = cc in wrong)
  by_length (inr fits) = take_all most_names names (let le : length names ≤ most_names = omega (arith, few, fits) in le)
