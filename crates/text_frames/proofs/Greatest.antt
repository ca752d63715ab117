-- Greatest numbers that pass a test.
use Rattle.std.specs.Prelude.{◌≡◌, ℕ, zero, suc, ◌+◌, ◌-◌, ◌<◌, ◌≤◌, Bool, true, false, cond, List, slice_get, Some}
use Rattle.std.proofs.Common.{refl, sym, ap, ◌∙◌, inl, inr, arith, add-one}
use Rattle.std.proofs.lemmas.Bool.{cases_eq}
use Rattle.std.proofs.lemmas.Bool.Decides.{eqb_tells}
use Rattle.event_bytes.specs.Bytes.{carriage_return}
use Rattle.text_frames.specs.Lines.{greatest_where, IsGreatest, ends_line, begins_line, line_start, line_above, is_return}

by : (test : ℕ → Bool) (n : ℕ) (b : Bool) → test (suc n) ≡ b → IsGreatest test n (greatest_where test n)
    → IsGreatest test (suc n) (cond b (suc n) (greatest_where test n))
by test n true is rec =
    record {
      within = omega arith;
      passes = inr is;
      none_above = λ k low high. absurd (let no : ⊥ = omega (arith, low, high) in no);
    }
by test n false is rec = record {
  within = (let le : greatest_where test n ≤ suc n = omega (arith, rec.within) in le);
  passes = rec.passes;
  none_above = λ k low high. elim
      (cases_eq k (suc n)) [ inl same ↦ rw same is | inr other ↦ rec.none_above k low (omega (arith, high, other)) ];
}

pub is_greatest : (test : ℕ → Bool) (n : ℕ) → IsGreatest test n (greatest_where test n)
is_greatest test zero =
    record {
      within = omega arith;
      passes = inl refl;
      none_above = λ k low high. absurd (let no : ⊥ = omega (arith, low, high) in no);
    }
is_greatest test (suc n) = by test n (test (suc n)) refl (is_greatest test n)

pub greatest_within : (test : ℕ → Bool) (n : ℕ) → greatest_where test n ≤ n
greatest_within test n = (is_greatest test n).within

greatest_more : (test : ℕ → Bool) (n : ℕ) → greatest_where test (n + 1) ≡ cond (test (n + 1)) (n + 1) (greatest_where test n)
greatest_more test n = rw add-one refl

-- one number more
pub greatest_next : (test : ℕ → Bool) (n s : ℕ) (b : Bool) → b ≡ test (n + 1) → s ≡ greatest_where test n
    → cond b (n + 1) s ≡ greatest_where test (n + 1)
greatest_next test n s b at is = ap (λ (c : Bool). cond c (n + 1) s) at
    ∙ ap (λ (t : ℕ). cond (test (n + 1)) (n + 1) t) is ∙ sym (greatest_more test n)

pub begins_next : (bs : List ℕ) (k : ℕ) → begins_line bs (k + 1) ≡ ends_line (slice_get bs k)
begins_next bs k = rw add-one refl

starts_by : (bs : List ℕ) (n : ℕ) (b : Bool) → begins_line bs (suc n) ≡ b → begins_line bs (line_start bs n) ≡ true
    → begins_line bs (cond b (suc n) (line_start bs n)) ≡ true
starts_by bs n true is rec = is
starts_by bs n false is rec = rec

pub starts : (bs : List ℕ) (p : ℕ) → begins_line bs (line_start bs p) ≡ true
starts bs zero = refl
starts bs (suc n) = starts_by bs n (begins_line bs (suc n)) refl (starts bs n)

-- the line of the next position
pub start_next : (bs : List ℕ) (k s : ℕ) (b : Bool) → b ≡ ends_line (slice_get bs k) → s ≡ line_start bs k
    → cond b (k + 1) s ≡ line_start bs (k + 1)
start_next bs k s b at is = greatest_next (begins_line bs) k s b (at ∙ sym (begins_next bs k)) is

-- the byte before a position ends a line, or is of the same line
module _ (bs : List ℕ) (at byte : ℕ) (there : slice_get bs (at - 1) ≡ Some byte) (some : 0 < at) where
  by_byte_before : (b : Bool) → is_return byte ≡ b → line_start bs at ≡ cond b (at - 1 + 1) (line_start bs (at - 1))
  by_byte_before b is =
      ap (line_start bs) (let e : at ≡ at - 1 + 1 = omega (arith, some) in e)
      ∙ sym (start_next bs (at - 1) (line_start bs (at - 1)) b (sym (ap ends_line there ∙ is)) refl)

  pub starts_here : byte ≡ carriage_return → at - 1 + 1 ≡ line_start bs at
  starts_here is = sym (by_byte_before true (ap is_return is))

  pub starts_before : (byte ≡ carriage_return → ⊥) → line_start bs at ≡ line_start bs (at - 1)
  starts_before other = by_byte_before false (elim (eqb_tells byte carriage_return) [
    | inl same ↦ absurd (other same.1)
    | inr differs ↦ differs.0
  ])

-- a line up
pub above_next : (bs : List ℕ) (n m p start q : ℕ) → n ≡ m + 1 → start ≡ line_start bs p → q ≡ start - 1
    → line_above bs n p ≡ line_above bs m q
above_next bs n m p start q e is back =
    ap (λ k. line_above bs k p) (let more : n ≡ suc m = omega (arith, e) in more)
    ∙ ap (λ s. line_above bs m (s - 1)) (sym is) ∙ ap (line_above bs m) (sym back)

pub above_last : (bs : List ℕ) (n p : ℕ) → n ≡ 0 → line_start bs p ≡ line_above bs n p
above_last bs n p e = ap (λ k. line_above bs k p) (sym e)
