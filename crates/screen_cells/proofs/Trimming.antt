-- The least prefix after which all is blank.
use Rattle.std.proofs.Common.{◌≡◌, ◌≢◌, ℕ, ◌+◌, ◌-◌, ◌<◌, ◌≤◌, Bool, true, false, eqb, List, ◌∷◌, ◌&&◌, length, take}
use Rattle.std.proofs.Common.{drop, get_or, ap, ◌∙◌, arith}
use Rattle.std.specs.List.{list_all, range_with_len}
use Rattle.std.proofs.lemmas.List.{get_or-drop, drop_more, drop_all, length-drop}
use Rattle.std.proofs.lemmas.List.Folds.{list_all_at}
use Rattle.std.proofs.lemmas.List.Sums.{position_or_len_is}
use Rattle.std.proofs.lemmas.List.FromFn.{length-range_with_len, get_or-range_with_len}
use Rattle.std.proofs.lemmas.Bool.Decides.{nat_tests}
use Rattle.screen_pictures.specs.Printed.{without_trailing, least}

-- all bytes from index n on are blank
pub record IsBlankFrom (blank : ℕ) (bytes : List ℕ) (n : ℕ) : Type 0 where
  pub within : n ≤ length bytes
  pub blanks : list_all (λ b. eqb b blank) (drop n bytes) ≡ true

pub blank_none : (blank : ℕ) (bytes : List ℕ) → IsBlankFrom blank bytes (length bytes)
blank_none blank bytes = record {
  within = omega arith;
  blanks = rw (drop_all (length bytes) bytes (omega arith));
}

pub blank_more : (blank : ℕ) (bytes : List ℕ) (n : ℕ) → 0 < n → IsBlankFrom blank bytes n
    → get_or bytes (n - 1) 0 ≡ blank → IsBlankFrom blank bytes (n - 1)
blank_more blank bytes n some before here =
    let lt : n - 1 < length bytes = let w = before.within in omega arith in
    let next : n - 1 + 1 ≡ n = omega arith in
    let more : drop (n - 1) bytes ≡ get_or bytes (n - 1) 0 ∷ drop n bytes =
    drop_more bytes (n - 1) 0 lt ∙ ap (λ m. get_or bytes (n - 1) 0 ∷ drop m bytes) next in
    let first : eqb (get_or bytes (n - 1) 0) blank ≡ true = grind (arith, nat_tests) in
    record {
      within = omega arith;
      blanks = ap (list_all (λ b. eqb b blank)) more ∙ ap (λ b. b && list_all (λ c. eqb c blank) (drop n bytes)) first
          ∙ before.blanks;
    }

pub without_trailing_is : (blank : ℕ) (bytes : List ℕ) (n : ℕ) → IsBlankFrom blank bytes n
    → (0 < n → get_or bytes (n - 1) 0 ≢ blank) → without_trailing blank bytes ≡ take n bytes
unfolding without_trailing least
without_trailing_is blank bytes n blank_from last =
    ap (λ m. take m bytes) (position_or_len_is passes (range_with_len 0 (length bytes)) n 0
    (omega (arith, blank_from.within, long)) fails now)
  where
    passes : ℕ → Bool
    passes m = list_all (λ b. eqb b blank) (drop m bytes)

    long : length (range_with_len 0 (length bytes)) ≡ length bytes
    long = length-range_with_len 0 (length bytes)

    number : (k : ℕ) → k < length bytes → get_or (range_with_len 0 (length bytes)) k 0 ≡ k
    number k h = get_or-range_with_len 0 (length bytes) k 0 h ∙ omega arith

    fails : (k : ℕ) → k < n → passes (get_or (range_with_len 0 (length bytes)) k 0) ≡ false
    fails k h =
        let lt : k < length bytes = omega (arith, blank_from.within) in
        let short : n - 1 - k < length (drop k bytes) = omega (arith, length-drop k bytes, blank_from.within) in
        let sum : k + (n - 1 - k) ≡ n - 1 = omega arith in
        let there : get_or (drop k bytes) (n - 1 - k) 0 ≡ get_or bytes (n - 1) 0 = get_or-drop k bytes (n - 1 - k) 0
        ∙ ap (λ i. get_or bytes i 0) sum in
        let other : get_or bytes (n - 1) 0 ≢ blank = last (omega arith) in
        let no : eqb (get_or (drop k bytes) (n - 1 - k) 0) blank ≡ false = grind (arith, nat_tests) in
        ap passes (number k lt) ∙ list_all_at (λ b. eqb b blank) (drop k bytes) (n - 1 - k) 0 short no

    now : n < length (range_with_len 0 (length bytes)) → passes (get_or (range_with_len 0 (length bytes)) n 0) ≡ true
    now h = ap passes (number n (omega (arith, long))) ∙ blank_from.blanks
