-- How long numbers are when they are written.
use Rattle.std.proofs.Common.{ℕ, suc, ◌≡◌, ◌-◌, ◌^◌, ◌<◌, ◌≤◌, List, length, arith, length-append}
use Rattle.std.proofs.lemmas.Fmt.{length-decimal-le}
use Rattle.std.proofs.lemmas.List.{length-replicate}
use Rattle.std.specs.Prelude.{ℤ, pos, negsuc, max, replicate}
use Rattle.std.specs.Fmt.{decimal, signed_decimal}
use Rattle.std.specs.Int.Signed.{mag}
use Rattle.writer_core.specs.Number.{right_aligned}

pub length-signed_decimal-le : (value : ℤ) → mag value < 2 ^ 63 → length (signed_decimal value) ≤ 20
length-signed_decimal-le (pos n) h =
    let few : length (decimal n) ≤ 19 = length-decimal-le 19 n (omega arith) (omega (arith, h)) (omega (arith, h)) in
    omega (arith, few)
length-signed_decimal-le (negsuc n) h =
    let few : length (decimal (suc n)) ≤ 19 =
    length-decimal-le 19 (suc n) (omega arith) (omega (arith, h)) (omega (arith, h)) in omega (arith, few)

pub length-right_aligned-le : (width most : ℕ) (text : List ℕ) → length text ≤ most
    → length (right_aligned width text) ≤ max width most
length-right_aligned-le width most text h =
    let all = length-append (replicate (width - length text) 32) text in
    let blanks : length (replicate {A = ℕ} (width - length text) 32) ≡ width - length text =
    length-replicate (width - length text) 32 in omega (arith, h)
