-- Where a byte occurs: counted between two indices, and a byte more.
use Rattle.std.proofs.Common.{◌≡◌, ℕ, suc, zero, ◌+◌, ◌<◌, ◌≤◌, ◌==◌, Bool, true, false, cond, nat_lt, List, [], ◌∷◌, ◌++◌}
use Rattle.std.proofs.Common.{length, take, drop, count_by, slice_range, if◌then◌else◌, ◌-◌, refl, sym, ◌∙◌, ap, subst, arith}
use Rattle.std.proofs.Common.{Option, Some, None, IfSome, get_or, slice_get, slice_set, ◌⊎◌, inl, inr}
use Rattle.std.proofs.lemmas.Bool.Decides.{nat_tests}
use Rattle.std.proofs.lemmas.List.{length-take, append_assoc, append-nil, drop_all}
use lib.Seq.{drop-cons}
use Rattle.std.proofs.lemmas.Option.{same_Some}
use Rattle.std.proofs.lemmas.List.Sums.{sum_by-cons, count_by-le-length}
use Rattle.sector_disk.specs.declared.disk.TheConstants.{SECTOR_BYTES}
use Rattle.char_pages.specs.declared.occurrences.Counted.{Counted}
use Rattle.char_pages.specs.Occurrences.{occurrences_from, occurrences, is_between, AreIndices, AreFew, EachKnown, indices_of, indices_in}

-- of a list with one more element in front
counted_first : (p : ℕ → Bool) (x : ℕ) (xs : List ℕ) → count_by p (x ∷ xs) ≡ cond (p x) 1 0 + count_by p xs
counted_first p x xs = sum_by-cons (λ y. cond (p y) 1 0) x xs

-- an index past the first bound is tested by the second alone
past_first : (from to index : ℕ) → from ≤ index → is_between from to index ≡ nat_lt index to
past_first from to index h =
    let no : nat_lt index from ≡ false = grind (h, arith, nat_tests) in
    ap (λ (y : Bool). if y then false else nat_lt index to) no

-- one before it isn't between
before_first : (from to index : ℕ) → index < from → is_between from to index ≡ false
before_first from to index h =
    let yes : nat_lt index from ≡ true = grind (h, arith, nat_tests) in
    ap (λ (y : Bool). if y then false else nat_lt index to) yes

-- bounds that are reckoned from the next index
moved : (k n : ℕ) → k + 0 + suc n ≡ k + 1 + 0 + n
moved k n = omega arith

-- nothing is left of nothing
nothing_left : (a n : ℕ) → take {A = ℕ} n (drop a []) ≡ []
nothing_left zero zero = refl
nothing_left zero (suc n) = refl
nothing_left (suc a) zero = refl
nothing_left (suc a) (suc n) = refl

module _ (wanted : ℕ) where
  -- with a byte more in front
  front_byte : (p : ℕ → Bool) (k b : ℕ) (bytes : List ℕ) → count_by p (occurrences_from wanted k (b ∷ bytes))
      ≡ cond (b == wanted) (cond (p k) 1 0) 0 + count_by p (occurrences_from wanted (k + 1) bytes)
  unfolding occurrences_from
  front_byte p k b bytes = elim (b == wanted) as
      (λ y. count_by p (if y then k ∷ occurrences_from wanted (k + 1) bytes else occurrences_from wanted (k + 1) bytes)
      ≡ cond y (cond (p k) 1 0) 0 + count_by p (occurrences_from wanted (k + 1) bytes)) [
        | true ↦ counted_first p k (occurrences_from wanted (k + 1) bytes)
        | false ↦ omega arith
      ]

  -- where all indices are past a bound, it may be another
  any_bound : (from from' to k : ℕ) (bytes : List ℕ) → from ≤ k → from' ≤ k
      → count_by (is_between from to) (occurrences_from wanted k bytes)
      ≡ count_by (is_between from' to) (occurrences_from wanted k bytes)
  unfolding occurrences_from
  any_bound from from' to k [] h h' = refl
  any_bound from from' to k (b ∷ bytes) h h' =
      front_byte (is_between from to) k b bytes
      ∙ (λ i. cond (b == wanted) (cond (same i) 1 0) 0
      + any_bound from from' to (k + 1) bytes (omega (arith, h)) (omega (arith, h')) i)
      ∙ sym (front_byte (is_between from' to) k b bytes)
    where
      same : is_between from to k ≡ is_between from' to k
      same = past_first from to k h ∙ sym (past_first from' to k h')

  -- between equal bounds is nothing
  none_between : (from k : ℕ) (bytes : List ℕ) → count_by (is_between from from) (occurrences_from wanted k bytes) ≡ 0
  unfolding occurrences_from
  none_between from k [] = refl
  none_between from k (b ∷ bytes) =
      front_byte (is_between from from) k b bytes
      ∙ (λ i. cond (b == wanted) (cond (none i) 1 0) 0 + none_between from (k + 1) bytes i)
      ∙ zeros (b == wanted)
    where
      none : is_between from from k ≡ false
      none = elim (nat_lt k from) as (λ y. (if y then false else y) ≡ false) [
        | true ↦ refl
        | false ↦ refl
      ]

      zeros : (y : Bool) → cond y 0 0 + 0 ≡ 0
      zeros true = refl
      zeros false = refl

  -- so many as the bytes there
  pub counted : (k a n : ℕ) (bytes : List ℕ) → count_by (is_between (k + a) (k + a + n)) (occurrences_from wanted k bytes)
      ≡ count_by (λ b. b == wanted) (take n (drop a bytes))
  unfolding occurrences_from
  counted k a n [] = ap (count_by (λ b. b == wanted)) (sym (nothing_left a n))
  counted k zero zero (b ∷ bytes) =
      (λ i. count_by (is_between (first i) (second i)) (occurrences_from wanted k (b ∷ bytes)))
      ∙ none_between k k (b ∷ bytes)
    where
      first : k + 0 ≡ k
      first = omega arith

      second : k + 0 + 0 ≡ k
      second = omega arith
  counted k zero (suc n) (b ∷ bytes) =
      front_byte (is_between (k + 0) (k + 0 + suc n)) k b bytes
      ∙ (λ i. cond (b == wanted) (cond (here i) 1 0) 0
      + any_bound (k + 0) (k + 1 + 0) (k + 0 + suc n) (k + 1) bytes (omega arith) (omega arith) i)
      ∙ ap (λ to. cond (b == wanted) 1 0 + count_by (is_between (k + 1 + 0) to) (occurrences_from wanted (k + 1) bytes))
      (moved k n)
      ∙ ap (λ m. cond (b == wanted) 1 0 + m) (counted (k + 1) 0 n bytes)
      ∙ sym (counted_first (λ x. x == wanted) b (take n bytes))
    where
      here : is_between (k + 0) (k + 0 + suc n) k ≡ true
      here = past_first (k + 0) (k + 0 + suc n) k (omega arith) ∙ grind (arith, nat_tests)
  counted k (suc a) n (b ∷ bytes) =
      front_byte (is_between (k + suc a) (k + suc a + n)) k b bytes
      ∙ (λ i. cond (b == wanted) (cond (no i) 1 0) 0 + count_by (is_between (k + suc a) (k + suc a + n))
      (occurrences_from wanted (k + 1) bytes))
      ∙ zeros (b == wanted) _
      ∙ (λ i. count_by (is_between (next i) (next i + n)) (occurrences_from wanted (k + 1) bytes))
      ∙ counted (k + 1) a n bytes
    where
      no : is_between (k + suc a) (k + suc a + n) k ≡ false
      no = before_first (k + suc a) (k + suc a + n) k (omega arith)

      next : k + suc a ≡ k + 1 + a
      next = omega arith

      zeros : (y : Bool) (m : ℕ) → cond y 0 0 + m ≡ m
      zeros true m = omega arith
      zeros false m = omega arith

  -- no more than there are bytes
  no_more : (k : ℕ) (bytes : List ℕ) → length (occurrences_from wanted k bytes) ≤ length bytes
  unfolding occurrences_from
  no_more k [] = omega arith
  no_more k (b ∷ bytes) =
      let h = no_more (k + 1) bytes in
      elim (b == wanted) as
      (λ y. length (if y then k ∷ occurrences_from wanted (k + 1) bytes else occurrences_from wanted (k + 1) bytes)
      ≤ length (b ∷ bytes)) [
        | true ↦ omega (arith, h)
        | false ↦ omega (arith, h)
      ]

-- a byte was passed, and its index was added if it is the wanted one
pub byte_passed : (wanted at : ℕ) (bytes found : List ℕ) → at < length bytes
    → (found ++ (if get_or bytes at 0 == wanted then at ∷ [] else []))
    ++ occurrences_from wanted (at + 1) (drop (at + 1) bytes) ≡ found ++ occurrences_from wanted at (drop at bytes)
unfolding occurrences_from
byte_passed wanted at bytes found less =
    append_assoc found _ _
    ∙ ap (λ l. found ++ l) (in_front (get_or bytes at 0 == wanted)
    ∙ ap (λ n. occurrences_from wanted at (get_or bytes at 0 ∷ drop n bytes)) next
    ∙ ap (occurrences_from wanted at) (sym (drop-cons bytes at 0 less)))
  where
    next : at + 1 ≡ suc at
    next = omega arith

    behind : List ℕ
    behind = occurrences_from wanted (at + 1) (drop (at + 1) bytes)

    in_front : (y : Bool) → (if y then at ∷ [] else []) ++ behind ≡ (if y then at ∷ behind else behind)
    in_front true = refl
    in_front false = refl

-- all bytes were passed
pub all_passed : (wanted at : ℕ) (bytes found : List ℕ) → length bytes ≤ at
    → found ++ occurrences_from wanted at (drop at bytes) ≡ occurrences wanted bytes → found ≡ occurrences wanted bytes
unfolding occurrences_from
all_passed wanted at bytes found past so_far =
    sym (append-nil found) ∙ ap (λ l. found ++ occurrences_from wanted at l) (sym (drop_all at bytes past)) ∙ so_far

-- the indices in a part of a sector are counted as its bytes are
pub counted_part : {wanted : ℕ} {bytes indices : List ℕ} (from few : ℕ) → AreIndices wanted bytes indices
    → count_by (is_between from (from + few)) indices ≡ count_by (λ b. b == wanted) (slice_range bytes from (from + few))
counted_part {wanted} {bytes} {indices} from few are =
    ap (count_by (is_between from (from + few))) are.all
    ∙ (λ i. count_by (is_between (start i) (start i + few)) (occurrences wanted bytes))
    ∙ counted wanted 0 from few bytes
    ∙ ap (λ n. count_by (λ b. b == wanted) (take n (drop from bytes))) long
  where
    start : from ≡ 0 + from
    start = omega arith

    long : few ≡ from + few - from
    long = omega arith

-- among no index none is counted
pub none_among : (p : ℕ → Bool) (indices : List ℕ) → length indices ≡ 0 → 0 ≡ count_by p indices
none_among p [] none = refl
none_among p (index ∷ indices) none = absurd cc

pub are_few : {wanted : ℕ} {bytes indices : List ℕ} → AreIndices wanted bytes indices → AreFew indices
are_few {wanted} {bytes} {indices} are = record {
  all = let h = no_more wanted 0 bytes in
      subst (λ l. length l ≤ SECTOR_BYTES) (sym are.all) (omega (arith, h, are.whole));
  part = λ from few within.
      let most = count_by-le-length (λ b. b == wanted) (slice_range bytes from (from + few)) in
      let long = length-take (from + few - from) (drop from bytes) in
      let same = counted_part from few are in omega (arith, most, same, long);
}

-- a place in which nothing is known
still_known : (known : List (Option Counted)) (k : ℕ) (counted : Counted)
    → slice_get (known ++ None ∷ []) k ≡ Some (Some counted) → slice_get known k ≡ Some (Some counted)
still_known [] zero counted h = absurd cc
still_known [] (suc k) counted h = h
still_known (x ∷ known) zero counted h = h
still_known (x ∷ known) (suc k) counted h = still_known known k counted h

pub each_more : (P : ℕ → List ℕ → Type 0) (known : List (Option Counted)) → EachKnown P known
    → EachKnown P (known ++ None ∷ [])
each_more P known each k counted there = each k counted (still_known known k counted there)

pub each_pushed : (P : ℕ → List ℕ → Type 0) (old : List (Option Counted))
    {new : List (Option Counted)} (grew : Bool)
    → new ≡ (if grew then old ++ None ∷ [] else old) → EachKnown P old → EachKnown P new
each_pushed P old true is each = subst (EachKnown P) (sym is) (each_more P old each)
each_pushed P old false is each = subst (EachKnown P) (sym is) each

-- one of which it is known now
new_or_known : (known : List (Option Counted)) (k m : ℕ) (put counted : Counted)
    → slice_get (slice_set known k (Some put)) m ≡ Some (Some counted)
    → (counted ≡ put) ⊎ (slice_get known m ≡ Some (Some counted))
new_or_known [] k m put counted h = inr h
new_or_known (x ∷ known) zero zero put counted h = inl cc
new_or_known (x ∷ known) zero (suc m) put counted h = inr h
new_or_known (x ∷ known) (suc k) zero put counted h = inr h
new_or_known (x ∷ known) (suc k) (suc m) put counted h = new_or_known known k m put counted h

pub each_set : (P : ℕ → List ℕ → Type 0) (known : List (Option Counted)) (k : ℕ) (put : Counted)
    → P put.number put.indices.items → EachKnown P known → EachKnown P (slice_set known k (Some put))
each_set P known k put is each m counted there = elim (new_or_known known k m put counted there) [
  | inl new ↦ subst (λ (c : Counted). P c.number c.indices.items) (sym new) is
  | inr was ↦ each m counted was
]

-- So many indices are known at most, where each list has no more than a sector has bytes.
pub few_of : (known : Option Counted) → IfSome known (λ counted. AreFew counted.indices.items)
    → indices_of known ≤ SECTOR_BYTES
few_of None few = omega arith
few_of (Some counted) few = few.all

-- what is known in a place whose sector has that number
pub is_known : (P : ℕ → List ℕ → Type 0) (known : List (Option Counted)) (k n : ℕ) (counted : Counted)
    → EachKnown P known → slice_get known k ≡ Some (Some counted) → counted.number ≡ n → P n counted.indices.items
is_known P known k n counted each there is = subst (λ m. P m counted.indices.items) is (each k counted there)

-- of the first places, one more
pub indices_more : (known : List (Option Counted)) (k : ℕ) (here : Option Counted) → slice_get known k ≡ Some here
    → indices_in (take (k + 1) known) ≡ indices_in (take k known) + indices_of here
indices_more [] k here there = absurd cc
indices_more (x ∷ known) zero here there =
    sum_by-cons indices_of x (take 0 known) ∙ turned (indices_of x) ∙ ap (λ y. 0 + indices_of y) (same_Some x here there)
  where
    turned : (n : ℕ) → n + 0 ≡ 0 + n
    turned n = omega arith
indices_more (x ∷ known) (suc k) here there =
    ap (λ n. indices_in (take n (x ∷ known))) next
    ∙ sum_by-cons indices_of x (take (k + 1) known)
    ∙ ap (λ n. indices_of x + n) (indices_more known k here there)
    ∙ moved_in (indices_of x) (indices_in (take k known)) (indices_of here)
    ∙ ap (λ n. n + indices_of here) (sym (sum_by-cons indices_of x (take k known)))
  where
    next : suc k + 1 ≡ suc (k + 1)
    next = omega arith

    moved_in : (a b c : ℕ) → a + (b + c) ≡ a + b + c
    moved_in a b c = omega arith

-- the list that is known in a place is that of a sector
pub few_known : (known : List (Option Counted)) (k : ℕ) (here : Option Counted) → EachKnown (λ n. AreFew) known
    → slice_get known k ≡ Some here → IfSome here (λ counted. AreFew counted.indices.items)
few_known known k None each there = tt
few_known known k (Some counted) each there = each k counted there
