-- The bytes of a text from a position on, one after another.
use Rattle.std.specs.Prelude.{◌≡◌, ℕ, ◌+◌, ◌-◌, ◌≤◌, min, List, [], ◌∷◌, ◌++◌, length, drop, take, Some, slice_get}
use Rattle.std.proofs.Common.{sym, ap, ◌∙◌, arith, get_or, length-append, length-drop}
use Rattle.std.proofs.lemmas.List.{take_more, take_min, get_or-drop}
use Rattle.std.proofs.lemmas.Option.{slice_get_within, get_or_from_slice_get}

-- one more byte of those from `start` on
pub one_more : (bs kept : List ℕ) (start at byte : ℕ) → start ≤ at → kept ≡ take (at - start) (drop start bs)
    → slice_get bs at ≡ Some byte
    → kept ++ byte ∷ [] ≡ take (at + 1 - start) (drop start bs)
one_more bs kept start at byte low e there =
    let inside = slice_get_within bs at byte there in
    let place : start + (at - start) ≡ at = omega (arith, low) in
    let size : at + 1 - start ≡ at - start + 1 = omega (arith, low) in
    let read : get_or (drop start bs) (at - start) 0 ≡ byte = get_or-drop start bs (at - start) 0
    ∙ (ap (λ k. get_or bs k 0) place ∙ get_or_from_slice_get bs at byte 0 there) in
    ap (λ l. l ++ byte ∷ []) e
    ∙ (ap (λ b. take (at - start) (drop start bs) ++ b ∷ []) (sym read)
    ∙ (sym (take_more (drop start bs) (at - start) 0 (omega (arith, inside, low, length-drop start bs)))
    ∙ ap (λ n. take n (drop start bs)) (sym size)))

pub one_count : (kept more : List ℕ) (start at byte : ℕ) → start + length kept ≡ at → more ≡ kept ++ byte ∷ []
    → start + length more ≡ at + 1
one_count kept more start at byte e made = omega (arith, e, ap length made, length-append kept (byte ∷ []))

-- as many as are asked for, or as there are
pub all_there : (most : ℕ) (bs kept : List ℕ) (start at count : ℕ) → kept ≡ take (at - start) (drop start bs)
    → count ≡ length bs → at - start ≡ min most (count - start) → kept ≡ take most (drop start bs)
all_there most bs kept start at count e counted size =
    let left : count - start ≡ length (drop start bs) = omega (arith, counted, length-drop start bs) in
    e ∙ (ap (λ n. take n (drop start bs)) (size ∙ ap (min most) left) ∙ take_min most (drop start bs))
