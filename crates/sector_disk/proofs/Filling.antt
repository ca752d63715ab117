-- A buffer whose rest was written.
use Rattle.std.proofs.Common.{◌≡◌, ℕ, ◌-◌, ◌<◌, ◌≤◌, List, length, take, get_or, sym, ◌∙◌, arith, get_or-take}
use Rattle.std.proofs.lemmas.List.{length-take-le, get_or_append_left, get_or-append_right}
use borrow.Rule.Slice.PartMut.{put_mid, same_len_mid, mid_len}

module _ (old rest : List ℕ) (at : ℕ) (within : at ≤ length old) (long : length rest ≡ length old - at) where
  pub length-refilled : length (put_mid at (length old - at) old rest) ≡ length old
  length-refilled = same_len_mid at (length old - at) old rest (long ∙ sym (mid_len at (length old) old (omega arith)))

  pub before_rest : (i : ℕ) → i < at → get_or (put_mid at (length old - at) old rest) i 0 ≡ get_or old i 0
  before_rest i early = get_or_append_left (take at old) _ 0 i (omega (arith, early, length-take-le at old within))
      ∙ get_or-take at old i 0 early

  pub in_rest : (i : ℕ) → at ≤ i → i < length old → get_or (put_mid at (length old - at) old rest) i 0
      ≡ get_or rest (i - at) 0
  in_rest i late low = get_or-append_right (take at old) _ at i 0 (length-take-le at old within) late
      ∙ get_or_append_left rest _ 0 (i - at) (omega (arith, late, low, long))
