-- What a number is written as.
use Rattle.std.specs.Prelude.{ℕ, ℤ, ◌-◌, ◌^◌, ◌<◌, ◌≤◌, max, List, ◌++◌, length, replicate}
use Rattle.std.specs.Fmt.{signed_decimal}
use Rattle.std.specs.Int.Signed.{mag}

-- the text after as many blanks as fill the width
abbrev pub right_aligned : ℕ → List ℕ → List ℕ
right_aligned width text = replicate (width - length text) 32 ++ text

-- the decimal digits, with a `-` before a negative number, right aligned
abbrev pub number_text : ℕ → ℤ → List ℕ
number_text width value = right_aligned width (signed_decimal value)

-- each number of 64 bits is written in at most 20 bytes, or in as many as fill a greater width
abbrev pub NumbersAreShort : Type 0
NumbersAreShort = (width : ℕ) (value : ℤ) → mag value < 2 ^ 63
    → length (number_text width value) ≤ max width 20
