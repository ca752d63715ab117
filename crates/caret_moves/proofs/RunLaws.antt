-- Runs of a text, byte after byte.
use Rattle.std.specs.Prelude.{◌≡◌, ℕ, zero, suc, ◌+◌, ◌-◌, ◌<◌, ◌≤◌, not, Bool, true, false, cond, List, [], ◌∷◌, length, drop}
use Rattle.std.specs.Prelude.{Some, slice_get}
use Rattle.std.specs.List.{prefix_len}
use Rattle.std.proofs.Common.{refl, sym, ap, ◌∙◌, arith, length-drop}
use Rattle.text_frames.proofs.Greatest.{greatest_next, greatest_within}
use Rattle.caret_moves.specs.Runs.{is_of_run, run_end, begins_run, run_start, stops_run}

prefix_within : {X : Type 0} (test : X → Bool) (xs : List X) → prefix_len test xs ≤ length xs
prefix_within test [] = omega arith
prefix_within test (x ∷ xs) = elim (test x) as (λ (b : Bool). cond b (1 + prefix_len test xs) 0 ≤ suc (length xs)) [
  | true ↦ let rest = prefix_within test xs in omega (arith, rest)
  | false ↦ omega arith
]

pub end_within : (gaps : Bool) (bs : List ℕ) (p : ℕ) → p ≤ length bs → run_end gaps bs p ≤ length bs
end_within gaps bs p within =
    let low = prefix_within (is_of_run gaps) (drop p bs) in
    let long = length-drop p bs in omega (arith, low, long, within)

-- a byte more
prefix_at : (test : ℕ → Bool) (bs : List ℕ) (at b : ℕ) (is : Bool) → slice_get bs at ≡ Some b → test b ≡ is
    → prefix_len test (drop at bs) ≡ cond is (1 + prefix_len test (drop (suc at) bs)) 0
prefix_at test [] zero b is there passes = absurd (cc there)
prefix_at test [] (suc at) b is there passes = absurd (cc there)
prefix_at test (x ∷ xs) zero b is there passes =
    let same : x ≡ b = cc there in
    ap (λ (t : Bool). cond t (1 + prefix_len test xs) 0) (ap test same ∙ passes)
prefix_at test (x ∷ xs) (suc at) b is there passes = prefix_at test xs at b is there passes

module _ (gaps : Bool) (bs : List ℕ) (at b : ℕ) (there : slice_get bs at ≡ Some b) where
  pub run_goes_on : is_of_run gaps b ≡ true → run_end gaps bs at ≡ run_end gaps bs (at + 1)
  run_goes_on passes =
      let first : prefix_len (is_of_run gaps) (drop at bs) ≡ 1 + prefix_len (is_of_run gaps) (drop (suc at) bs) =
      prefix_at (is_of_run gaps) bs at b true there passes in
      let next : prefix_len (is_of_run gaps) (drop (at + 1) bs) ≡ prefix_len (is_of_run gaps) (drop (suc at) bs) =
      ap (λ (k : ℕ). prefix_len (is_of_run gaps) (drop k bs)) (let e : at + 1 ≡ suc at = omega arith in e) in
      omega (arith, first, next)

  pub run_ends_at : is_of_run gaps b ≡ false → at ≡ run_end gaps bs at
  run_ends_at passes =
      let first : prefix_len (is_of_run gaps) (drop at bs) ≡ 0 = prefix_at (is_of_run gaps) bs at b false there passes in
      omega (arith, first)

pub run_ends_last : (gaps : Bool) (bs : List ℕ) (n : ℕ) → length bs ≤ n → n ≡ run_end gaps bs n
run_ends_last gaps bs n high =
    let low = prefix_within (is_of_run gaps) (drop n bs) in
    let long = length-drop n bs in omega (arith, low, long, high)

-- ---- backward

module _ (gaps : Bool) (bs : List ℕ) (at b : ℕ) (there : slice_get bs (at - 1) ≡ Some b) (some : 0 < at) where
  by_byte_before : (is : Bool) → is_of_run gaps b ≡ is
      → run_start gaps bs at ≡ cond (not is) (at - 1 + 1) (run_start gaps bs (at - 1))
  by_byte_before is passes =
      ap (run_start gaps bs) (let e : at ≡ at - 1 + 1 = omega (arith, some) in e)
      ∙ sym (greatest_next (begins_run gaps bs) (at - 1) (run_start gaps bs (at - 1)) (not is)
      (next_begins (at - 1) (not is) b there (ap not passes)) refl)
    where
      next_begins : (k : ℕ) (is : Bool) (b : ℕ) → slice_get bs k ≡ Some b → not (is_of_run gaps b) ≡ is
          → is ≡ begins_run gaps bs (k + 1)
      next_begins k is b there passes =
          sym (ap (begins_run gaps bs) (let e : k + 1 ≡ suc k = omega arith in e)
          ∙ ap (stops_run gaps) there ∙ passes)

  pub run_starts_here : is_of_run gaps b ≡ false → at - 1 + 1 ≡ run_start gaps bs at
  run_starts_here passes = sym (by_byte_before false passes)

  pub run_starts_before : is_of_run gaps b ≡ true → run_start gaps bs at ≡ run_start gaps bs (at - 1)
  run_starts_before passes = by_byte_before true passes

pub start_within : (gaps : Bool) (bs : List ℕ) (p : ℕ) → run_start gaps bs p ≤ p
start_within gaps bs p = greatest_within (begins_run gaps bs) p
