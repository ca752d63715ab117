-- The greatest number that passes a test, and the first place that does, as they are sought step by step.
use Rattle.std.specs.Prelude.{◌≡◌, ℕ, zero, suc, ◌+◌, ◌-◌, ◌<◌, ◌≤◌, Bool, true, false, nat_lt, List, find, Option, Some, None}
use Rattle.std.specs.List.{range_with_len}
use Rattle.std.proofs.Common.{refl, sym, ap, ◌∙◌, inl, inr, arith}
use Rattle.std.proofs.lemmas.Bool.{cond-true, cond-false, lt-ltb, le-ltb}
use Rattle.std.proofs.lemmas.Bool.Decides.{leb_tells}
use Rattle.text_frames.specs.Lines.{greatest_where}
use Rattle.filled_pastes.specs.Paragraphs.{is_visible}

-- ---- downward

module _ (test before : ℕ → Bool) (same : (k : ℕ) → test (suc k) ≡ before k) where
  pub down_on : (at : ℕ) → 0 < at → before (at - 1) ≡ false → greatest_where test at ≡ greatest_where test (at - 1)
  down_on zero some is = absurd (omega arith)
  down_on (suc k) some is =
      let e : suc k - 1 ≡ k = omega arith in
      cond-false (test (suc k)) (suc k) (greatest_where test k) (same k ∙ ap before (sym e) ∙ is)
      ∙ ap (greatest_where test) (sym e)

  pub down_here : (at : ℕ) → 0 < at → before (at - 1) ≡ true → at - 1 + 1 ≡ greatest_where test at
  down_here zero some is = absurd (omega arith)
  down_here (suc k) some is =
      let e : suc k - 1 ≡ k = omega arith in
      (let s : suc k - 1 + 1 ≡ suc k = omega arith in s)
      ∙ sym (cond-true (test (suc k)) (suc k) (greatest_where test k) (same k ∙ ap before (sym e) ∙ is))

  pub down_none : (at : ℕ) → at ≤ 0 → 0 ≡ greatest_where test at
  down_none zero none = refl
  down_none (suc k) none = absurd (omega arith)

-- ---- onward

module _ (test : ℕ → Bool) (long : ℕ) where
  abbrev pub first_from : ℕ → Option ℕ
  first_from p = find test (range_with_len p (long - p))

  pub first_on : (p : ℕ) → p < long → test p ≡ false → first_from p ≡ first_from (p + 1)
  first_on p within out =
      let n : long - p ≡ suc (long - (p + 1)) = omega (arith, within) in
      ap (λ (k : ℕ). find test (range_with_len p k)) n
      ∙ cond-false (test p) (Some p) (first_from (p + 1)) out

  pub first_here : (p : ℕ) → p < long → test p ≡ true → Some p ≡ first_from p
  first_here p within here =
      let n : long - p ≡ suc (long - (p + 1)) = omega (arith, within) in
      sym (ap (λ (k : ℕ). find test (range_with_len p k)) n
      ∙ cond-true (test p) (Some p) (first_from (p + 1)) here)

  pub first_none : (p : ℕ) → long ≤ p → None ≡ first_from p
  first_none p high =
      let n : long - p ≡ 0 = omega (arith, high) in
      sym (ap (λ (k : ℕ). find test (range_with_len p k)) n)

-- ---- room in a line

pub room_is : (c n w : ℕ) → nat_lt n (w - c) ≡ nat_lt (c + n) w
room_is c n w = elim (leb_tells w (c + n)) [
  | inl high ↦ le-ltb n (w - c) (let le = high.1 in let l : w - c ≤ n = omega (arith, le) in l) ∙ sym (le-ltb (c + n) w high.1)
  | inr low ↦ lt-ltb n (w - c) (let lt = low.1 in let l : n < w - c = omega (arith, lt) in l) ∙ sym (lt-ltb (c + n) w low.1)
]

-- ---- a place in sight

pub next_seen : (bs : List ℕ) (w k : ℕ) → is_visible bs w (suc k) ≡ is_visible bs w (k + 1)
next_seen bs w k = ap (is_visible bs w) (let e : suc k ≡ k + 1 = omega arith in e)
