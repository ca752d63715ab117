-- What is heard of bytes.
use Rattle.std.proofs.Common.{◌≡◌, ℕ, zero, suc, ◌+◌, ◌<◌, ◌≤◌, Bool, true, false, cond, List, [], ◌∷◌, ◌++◌, length}
use Rattle.std.proofs.Common.{get_or, take, drop, refl, sym, ap, ◌∙◌, arith, append_assoc, min, Option, Some, None}
use Rattle.std.specs.Io.KnownBytes.{Consumes, prepend_known}
use Rattle.std.proofs.lemmas.List.{take_more, take_more_set, length-take}
use Rattle.std.proofs.Math.ListN.{set}
use Rattle.terminal_presses.specs.declared.press.Heard.{Heard}
use Rattle.terminal_presses.specs.declared.press.Heard.TheVariants.{Byte, Quiet}
use Rattle.terminal_keyboard.specs.Spelling.{bytes_heard}
use Rattle.terminal_keyboard.specs.Hearings.{heard_bytes, is_quiet, is_line_end, is_escape, line_from}

bytes_more : (xs : List ℕ) (b : ℕ) → bytes_heard (xs ++ b ∷ []) ≡ bytes_heard xs ++ Byte b ∷ []
bytes_more [] b = refl
bytes_more (x ∷ xs) b = ap (λ l. Byte x ∷ l) (bytes_more xs b)

bytes_so_far : (xs : List ℕ) (i : ℕ) → i < length xs
    → bytes_heard (take (i + 1) xs) ≡ bytes_heard (take i xs) ++ Byte (get_or xs i 0) ∷ []
bytes_so_far xs i within = ap bytes_heard (take_more xs i 0 within) ∙ bytes_more (take i xs) (get_or xs i 0)

-- one byte more is heard, in its place
pub next_heard : (room : List Heard) (xs : List ℕ) (i : ℕ) → i < length room → i < length xs
    → take i room ≡ bytes_heard (take i xs)
    → take (i + 1) (set room i (Byte (get_or xs i 0))) ≡ bytes_heard (take (i + 1) xs)
next_heard room xs i in_room in_xs so_far =
    take_more_set room i (Byte (get_or xs i 0)) in_room ∙ ap (λ l. l ++ Byte (get_or xs i 0) ∷ []) so_far
    ∙ sym (bytes_so_far xs i in_xs)

pub bytes_again : (xs : List ℕ) → heard_bytes (bytes_heard xs) ≡ xs
bytes_again [] = refl
bytes_again (x ∷ xs) = ap (λ l. x ∷ l) (bytes_again xs)

pub bytes_not_quiet : (xs : List ℕ) → is_quiet (bytes_heard xs) ≡ false
bytes_not_quiet [] = refl
bytes_not_quiet (x ∷ xs) = refl

-- ---- lines

line_heard : (behind : Bool) (one : Heard) (more : List Heard)
    → line_from behind (one ∷ more) ≡ suc (cond (is_line_end behind one) 0 (line_from (is_escape one) more))
unfolding line_from
line_heard behind one more = refl

nothing_heard : (behind : Bool) → line_from behind [] ≡ 0
unfolding line_from
nothing_heard behind = refl

-- a line is at most as long as what is heard
pub line_within : (behind : Bool) (xs : List Heard) → line_from behind xs ≤ length xs
line_within behind [] = omega (arith, nothing_heard behind)
line_within behind (x ∷ xs) =
    by_end (is_line_end behind x) (line_from (is_escape x) xs) (line_heard behind x xs) (line_within (is_escape x) xs) where
      by_end : (b : Bool) (n : ℕ) → line_from behind (x ∷ xs) ≡ suc (cond b 0 n) → n ≤ length xs
          → line_from behind (x ∷ xs) ≤ suc (length xs)
      by_end true n is less = omega (arith, is)
      by_end false n is less = omega (arith, is, less)

pub line_some : (behind : Bool) (xs : List Heard) → 1 ≤ length xs → 1 ≤ line_from behind xs
line_some behind [] some = absurd (omega (arith, some))
line_some behind (x ∷ xs) some = omega (arith, line_heard behind x xs)

-- a front that goes no further than the first line has no end before its own
pub front_within : (behind : Bool) (n : ℕ) (xs : List Heard) → n ≤ line_from behind xs
    → line_from behind (take n xs) ≡ length (take n xs)
front_within behind zero xs less = nothing_heard behind
front_within behind (suc n) [] less = nothing_heard behind
front_within behind (suc n) (x ∷ xs) less =
    by_end (is_line_end behind x) (line_from (is_escape x) xs) (line_from (is_escape x) (take n xs)) (length (take n xs))
    (line_heard behind x xs) (line_heard behind x (take n xs)) (length-take n xs) (front_within (is_escape x) n xs) where
      by_end : (b : Bool) (all front long : ℕ) → line_from behind (x ∷ xs) ≡ suc (cond b 0 all)
          → line_from behind (x ∷ take n xs) ≡ suc (cond b 0 front) → long ≡ min n (length xs) → (n ≤ all → front ≡ long)
          → line_from behind (x ∷ take n xs) ≡ suc long
      by_end true all front long is goal short rest = omega (arith, is, goal, short, less)
      by_end false all front long is goal short rest =
          let e : front ≡ long = rest (omega (arith, is, less)) in omega (arith, goal, e)

-- ---- a loop that goes on to the end of the first line

pub line_ended : (behind : Bool) (one : Heard) (more : List Heard) → is_line_end behind one ≡ true
    → line_from behind (one ∷ more) ≡ 1
line_ended behind one more is = line_heard behind one more ∙ (rw is refl)

pub line_goes_on : (behind : Bool) (one : Heard) (more : List Heard) → is_line_end behind one ≡ false
    → line_from behind (one ∷ more) ≡ suc (line_from (is_escape one) more)
line_goes_on behind one more is = line_heard behind one more ∙ (rw is refl)

-- where a line ends at a place
pub line_at : (behind : Bool) (d : Heard) (xs : List Heard) (i : ℕ) → i < length xs
    → is_line_end behind (get_or xs i d) ≡ true → line_from behind (drop i xs) ≡ 1
line_at behind d [] zero within is = absurd (omega (arith, within))
line_at behind d [] (suc i) within is = absurd (omega (arith, within))
line_at behind d (x ∷ xs) zero within is = line_ended behind x xs is
line_at behind d (x ∷ xs) (suc i) within is = line_at behind d xs i (omega (arith, within)) is

goes_on_at : (behind : Bool) (d : Heard) (xs : List Heard) (i : ℕ) → i < length xs
    → is_line_end behind (get_or xs i d) ≡ false
    → line_from behind (drop i xs) ≡ suc (line_from (is_escape (get_or xs i d)) (drop (suc i) xs))
goes_on_at behind d [] zero within is = absurd (omega (arith, within))
goes_on_at behind d [] (suc i) within is = absurd (omega (arith, within))
goes_on_at behind d (x ∷ xs) zero within is = line_goes_on behind x xs is
goes_on_at behind d (x ∷ xs) (suc i) within is = goes_on_at behind d xs i (omega (arith, within)) is

-- where it doesn't
pub line_on : (behind after : Bool) (d : Heard) (xs : List Heard) (i next : ℕ) → i < length xs
    → is_line_end behind (get_or xs i d) ≡ false → after ≡ is_escape (get_or xs i d) → next ≡ suc i
    → line_from behind (drop i xs) ≡ suc (line_from after (drop next xs))
line_on behind after d xs i next within is escape more =
    goes_on_at behind d xs i within is ∙ ap (λ b. suc (line_from b (drop (suc i) xs))) (sym escape)
    ∙ ap (λ k. suc (line_from after (drop k xs))) (sym more)

pub none_left : (behind : Bool) (xs : List Heard) (i : ℕ) → length xs ≤ i → line_from behind (drop i xs) ≡ 0
none_left behind [] zero all = nothing_heard behind
none_left behind [] (suc i) all = nothing_heard behind
none_left behind (x ∷ xs) zero all = absurd (omega (arith, all))
none_left behind (x ∷ xs) (suc i) all = none_left behind xs i (omega (arith, all))

pub bytes_of_both : (xs ys : List Heard) → heard_bytes (xs ++ ys) ≡ heard_bytes xs ++ heard_bytes ys
bytes_of_both [] ys = refl
bytes_of_both (Byte b ∷ xs) ys = ap (λ l. b ∷ l) (bytes_of_both xs ys)
bytes_of_both (Quiet ∷ xs) ys = bytes_of_both xs ys

-- of known bytes the front is told, and the rest is kept
pub told_and_kept : (a b : Option (List ℕ)) (front rest all : List ℕ) → Consumes a b all → all ≡ front ++ rest
    → Consumes a (prepend_known rest b) front
told_and_kept None b front rest all came parts = tt
told_and_kept (Some xs) None front rest all came parts = absurd came
told_and_kept (Some xs) (Some ys) front rest all came parts =
    came ∙ ap (λ l. l ++ ys) parts ∙ append_assoc front rest ys

pub kept_is_told : (a : Option (List ℕ)) (bs : List ℕ) → Consumes (prepend_known bs a) a bs
kept_is_told None bs = tt
kept_is_told (Some xs) bs = refl

pub none_kept : (a b : Option (List ℕ)) (bs : List ℕ) → Consumes a b bs → Consumes (prepend_known [] a) b bs
none_kept None b bs came = tt
none_kept (Some xs) b bs came = came

pub none_kept_after : (a b : Option (List ℕ)) (bs : List ℕ) → Consumes a b bs
    → Consumes (prepend_known [] a) (prepend_known [] b) bs
none_kept_after None b bs came = tt
none_kept_after (Some xs) None bs came = came
none_kept_after (Some xs) (Some ys) bs came = came
