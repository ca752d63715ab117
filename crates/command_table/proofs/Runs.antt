-- Runs of letters, digits and periods, and what a stretch around a position knows of them.
use Rattle.std.specs.Prelude.{ℕ, zero, suc, ◌≡◌, ◌+◌, ◌-◌, ◌<◌, ◌≤◌, ◌==◌, min, max, Bool, true, false}
use Rattle.std.specs.Prelude.{List, [], ◌∷◌, length, take, drop, slice_index, slice_range, Option, Some, None}
use Rattle.std.specs.Option.{option_map}
use Rattle.std.specs.List.{prefix_len}
use Rattle.std.specs.Prelude.{◌⊎◌}
use Rattle.std.proofs.Common.{refl, sym, ap, ◌∙◌, arith, inl, inr, length-drop}
use Rattle.std.proofs.lemmas.Bool.{cases_lt}
use Rattle.std.proofs.lemmas.Bool.Decides.{nat_tests}
use Rattle.std.proofs.lemmas.List.{get_or-take, get_or-drop, drop-take, length-take, length-take-le, drop-drop}
use Rattle.std.proofs.lemmas.List.{take-take}
use Rattle.std.proofs.lemmas.List.Sums.{prefix_len-le-length, prefix_len_passes, prefix_len_stops}
use Rattle.std.proofs.lemmas.List.Sums.{prefix_len-drop_yes}
use Rattle.piece_ring.specs.Text.{Text}
use Rattle.event_bytes.specs.Bytes.{is_name_byte}
use Rattle.readers_scanners.specs.Reading.{bytes_of_text}
use Rattle.readers_scanners.proofs.Running.{length-bytes}
use Rattle.command_table.specs.declared.command.Command.{Command}
use Rattle.command_table.specs.Commands.{command_named}
use Rattle.command_table.specs.Call.{run_from, word_begin, word_end, word_at, called_at, WordIsLongest}
use Rattle.command_table.proofs.Words.{long_word, no_word}

-- ---- where a run begins

pub begin_inside : (bs : List ℕ) (p : ℕ) → is_name_byte (slice_index bs p) ≡ true
    → word_begin bs (suc p) ≡ word_begin bs p
unfolding word_begin
begin_inside bs p h = rw h refl

pub begin_outside : (bs : List ℕ) (p : ℕ) → is_name_byte (slice_index bs p) ≡ false → word_begin bs (suc p) ≡ suc p
unfolding word_begin
begin_outside bs p h = rw h refl

pub begin_zero : (bs : List ℕ) → word_begin bs 0 ≡ 0
unfolding word_begin
begin_zero bs = refl

pub begin_within : (bs : List ℕ) (p : ℕ) → word_begin bs p ≤ p
begin_within bs zero = omega (arith, begin_zero bs)
begin_within bs (suc p) = by_byte (begin_within bs p) (is_name_byte (slice_index bs p)) refl where
  by_byte : word_begin bs p ≤ p → (b : Bool) → is_name_byte (slice_index bs p) ≡ b → word_begin bs (suc p) ≤ suc p
  by_byte before true h = omega (arith, begin_inside bs p h, before)
  by_byte before false h = omega (arith, begin_outside bs p h)

-- one step of a loop that goes back
pub step_back : (bs : List ℕ) (at begin : ℕ) → 0 < begin → is_name_byte (slice_index bs (begin - 1)) ≡ true
    → word_begin bs at ≡ word_begin bs begin → word_begin bs at ≡ word_begin bs (begin - 1)
step_back bs at zero pos h e = absurd (omega (arith, pos))
step_back bs at (suc begin) pos h e = let one : suc begin - 1 ≡ begin = omega arith in
    e ∙ (begin_inside bs begin (ap (λ k. is_name_byte (slice_index bs k)) (sym one) ∙ h) ∙ ap (word_begin bs) (sym one))

pub stop_back : (bs : List ℕ) (at begin : ℕ) → 0 < begin → is_name_byte (slice_index bs (begin - 1)) ≡ false
    → word_begin bs at ≡ word_begin bs begin → word_begin bs at ≡ begin
stop_back bs at zero pos h e = absurd (omega (arith, pos))
stop_back bs at (suc begin) pos h e = let one : suc begin - 1 ≡ begin = omega arith in
    e ∙ begin_outside bs begin (ap (λ k. is_name_byte (slice_index bs k)) (sym one) ∙ h)

-- ---- in a stretch from `start` on that reads as the bytes do

begin_shifted : (bs w : List ℕ) (start i : ℕ) → ((k : ℕ) → k < i → slice_index w k ≡ slice_index bs (start + k))
    → start + word_begin w i ≡ max (word_begin bs (start + i)) start
begin_shifted bs w start zero same = let e : start + 0 ≡ start = omega arith in
    let b = begin_within bs start in let z = begin_zero w in rw e (omega (arith, b, z))
begin_shifted bs w start (suc i) same = by_byte (begin_shifted bs w start i (λ k h. same k (omega (arith, h))))
    (is_name_byte (slice_index w i)) refl where
      at : slice_index w i ≡ slice_index bs (start + i)
      at = same i (omega arith)

      next : start + suc i ≡ suc (start + i)
      next = omega arith

      by_byte : start + word_begin w i ≡ max (word_begin bs (start + i)) start → (b : Bool)
          → is_name_byte (slice_index w i) ≡ b
          → start + word_begin w (suc i) ≡ max (word_begin bs (start + suc i)) start
      by_byte before true h =
          let there : is_name_byte (slice_index bs (start + i)) ≡ true = ap is_name_byte (sym at) ∙ h in
          let left = begin_inside w i h in let right : word_begin bs (start + suc i) ≡ word_begin bs (start + i) =
          ap (word_begin bs) next ∙ begin_inside bs (start + i) there in
          omega (arith, left, right, before)
      by_byte before false h =
          let there : is_name_byte (slice_index bs (start + i)) ≡ false = ap is_name_byte (sym at) ∙ h in
          let left = begin_outside w i h in let right : word_begin bs (start + suc i) ≡ suc (start + i) =
          ap (word_begin bs) next ∙ begin_outside bs (start + i) there in
          omega (arith, left, right)

prefix_len-take : {X : Type 0} (test : X → Bool) (n : ℕ) (xs : List X)
    → prefix_len test (take n xs) ≡ min n (prefix_len test xs)
prefix_len-take test zero xs = omega arith
prefix_len-take test (suc n) [] = omega arith
prefix_len-take test (suc n) (x ∷ xs) = by_first (prefix_len-take test n xs) (test x) refl where
  by_first : prefix_len test (take n xs) ≡ min n (prefix_len test xs) → (b : Bool) → test x ≡ b
      → prefix_len test (take (suc n) (x ∷ xs)) ≡ min (suc n) (prefix_len test (x ∷ xs))
  by_first later true h = rw h (omega (arith, later))
  by_first later false h = rw h (omega arith)

-- ---- what is called

not_called : (version : ℕ) (bs : List ℕ) (p : ℕ) → command_named version (word_at bs p) ≡ None
    → called_at version bs p ≡ None
unfolding called_at
not_called version bs p e = ap (option_map (λ command. (command, word_end bs p))) e

end_within : (bs : List ℕ) (p : ℕ) → p ≤ length bs → word_end bs p ≤ length bs
end_within bs p h = let fits = prefix_len-le-length is_name_byte (drop p bs) in let rest = length-drop p bs in
    omega (arith, h, fits, rest)

length-word : (bs : List ℕ) (p : ℕ) → p ≤ length bs → length (slice_range bs (word_begin bs p) (word_end bs p))
    ≡ word_end bs p - word_begin bs p
length-word bs p h =
    let end = end_within bs p h in let rest = length-drop (word_begin bs p) bs in
    length-take-le (word_end bs p - word_begin bs p) (drop (word_begin bs p) bs) (omega (arith, end, rest))

no_run : (version : ℕ) (bs : List ℕ) (p : ℕ) → (run_from bs p == 0) ≡ true → called_at version bs p ≡ None
no_run version bs p h =
    let none : word_at bs p ≡ [] = rw h refl in
    not_called version bs p (ap (command_named version) none ∙ no_word version)

some_run : (bs : List ℕ) (p : ℕ) → (run_from bs p == 0) ≡ false → word_at bs p ≡ slice_range bs (word_begin bs p)
    (word_end bs p)
some_run bs p h = rw h refl

-- too long a run calls nothing
long_run : (version : ℕ) (bs : List ℕ) (p : ℕ) → p ≤ length bs → 18 < word_end bs p - word_begin bs p
    → called_at version bs p ≡ None
long_run version bs p h long = by_run (run_from bs p == 0) refl where
  by_run : (b : Bool) → (run_from bs p == 0) ≡ b → called_at version bs p ≡ None
  by_run true e = no_run version bs p e
  by_run false e =
      let size = length-word bs p h in let is : length (word_at bs p) ≡ word_end bs p - word_begin bs p = ap length
      (some_run bs p e) ∙ size in
      not_called version bs p (long_word version (word_at bs p) (omega (arith, is, long)))

-- no run of its own at a position
pub no_call : (version : ℕ) (bs : List ℕ) (p run : ℕ) → run ≡ run_from bs p → run ≡ 0 → None ≡ called_at version bs p
no_call version bs p run is none = sym (no_run version bs p (ap (λ n. n == 0) (sym is ∙ none)))

is_zero : (n : ℕ) → (n == 0) ≡ true → n ≡ 0
is_zero zero h = refl
is_zero (suc n) h = grind (arith, nat_tests)

is_some : (n : ℕ) → (n == 0) ≡ false → 0 < n
is_some n h = grind (arith, nat_tests)

not_zero : (n : ℕ) → 0 < n → (n == 0) ≡ false
not_zero n h = grind (arith, nat_tests)

-- a call where all positions are so many further on
abbrev pub further : ℕ → Option (Command × ℕ) → Option (Command × ℕ)
further start call = option_map (λ x. (x.0, start + x.1)) call

same_call : (o : Option Command) (start end inner : ℕ) → end ≡ start + inner
    → option_map (λ command. (command, end)) o ≡ further start (option_map (λ command. (command, inner)) o)
same_call None start end inner e = refl
same_call (Some command) start end inner e = ap (λ k. Some (command, k)) e

module _ (version : ℕ) (bs : List ℕ) (p start : ℕ) (is : start ≡ p - 18) (within : p ≤ length bs) where
  abbrev window : List ℕ
  window = take 37 (drop start bs)

  abbrev at : ℕ
  at = p - start

  reaches : start + at ≡ p
  reaches = omega (arith, is)

  near : at ≤ 18
  near = omega (arith, is)

  reads : (k : ℕ) → k < at → slice_index window k ≡ slice_index bs (start + k)
  reads k h = get_or-take 37 (drop start bs) k 0 (omega (arith, h, near)) ∙ get_or-drop start bs k 0

  begins : start + word_begin window at ≡ max (word_begin bs p) start
  begins = begin_shifted bs window start at reads ∙ ap (λ q. max (word_begin bs q) start) reaches

  rest : drop at window ≡ take (37 - at) (drop p bs)
  rest =
      let parts : at + (37 - at) ≡ 37 = omega (arith, near) in
      ap (λ n. drop at (take n (drop start bs))) (sym parts) ∙ (drop-take at (37 - at) (drop start bs)
      ∙ ap (take (37 - at)) (drop-drop at start bs ∙ ap (λ n. drop n bs) reaches))

  runs : run_from window at ≡ min (37 - at) (run_from bs p)
  runs = ap (prefix_len is_name_byte) rest ∙ prefix_len-take is_name_byte (37 - at) (drop p bs)

  at_within : at ≤ length window
  at_within = let size = length-take 37 (drop start bs) in let left = length-drop start bs in
      omega (arith, size, left, near, within, reaches)

  cut : (a b : ℕ) → a ≤ b → b ≤ 37 → slice_range window a b ≡ slice_range bs (start + a) (start + b)
  cut a b ordered fits =
      let parts : a + (37 - a) ≡ 37 = omega (arith, ordered, fits) in let size : b - a ≡ (start + b) - (start + a) =
      omega arith in
      ap (λ n. take (b - a) (drop a (take n (drop start bs)))) (sym parts)
      ∙ (ap (take (b - a)) (drop-take a (37 - a) (drop start bs))
      ∙ (take-take (b - a) (37 - a) (drop a (drop start bs)) (omega (arith, ordered, fits))
      ∙ (ap (take (b - a)) (drop-drop a start bs) ∙ ap (λ n. take n (drop (start + a) bs)) size)))

  before : word_begin window at ≤ at
  before = begin_within window at

  short_call : (run_from bs p == 0) ≡ false → 0 < run_from bs p → word_end bs p - word_begin bs p ≤ 18
      → called_at version bs p ≡ further start (called_at version window at)
  unfolding called_at
  short_call e some short =
      let begin = begin_within bs p in let run = runs in let near_by = near in let reach = reaches in
      let low = begins in let inner = before in
      let end : word_end bs p ≡ start + word_end window at = omega (arith, run, reach, near_by, short, some, begin) in
      let first : word_begin bs p ≡ start + word_begin window at = omega (arith, low, is, short, some, begin) in
      let some_inner : 0 < run_from window at = omega (arith, run, near_by, some) in
      let filled : (run_from window at == 0) ≡ false = not_zero (run_from window at) some_inner in
      let fits : word_end window at ≤ 37 = omega (arith, run, near_by) in
      let ordered : word_begin window at ≤ word_end window at = omega (arith, inner) in
      let words : word_at bs p ≡ word_at window at =
      some_run bs p e ∙ ((λ k. slice_range bs (first k) (end k))
      ∙ (sym (cut (word_begin window at) (word_end window at) ordered fits)
      ∙ sym (some_run window at filled))) in
      ap (λ w. option_map (λ command. (command, word_end bs p)) (command_named version w)) words
      ∙ same_call (command_named version (word_at window at)) start (word_end bs p) (word_end window at) end

  long_call : 0 < run_from bs p → 18 < word_end bs p - word_begin bs p
      → called_at version bs p ≡ further start (called_at version window at)
  long_call some long =
      let begin = begin_within bs p in let run = runs in let near_by = near in let reach = reaches in
      let low = begins in let inner = before in
      let longer : 18 < word_end window at - word_begin window at = omega (
        arith,
        run,
        low,
        reach,
        near_by,
        is,
        long,
        some,
        begin,
        inner,
      ) in
      long_run version bs p within long ∙ sym (ap (further start) (long_run version window at at_within longer))

  -- the stretch decides
  pub called_in_window : called_at version bs p ≡ further start (called_at version window at)
  called_in_window = by_run (run_from bs p == 0) refl (cases_lt 18 (word_end bs p - word_begin bs p)) where
    by_run : (b : Bool) → (run_from bs p == 0) ≡ b → (18 < word_end bs p - word_begin bs p)
        ⊎ (word_end bs p - word_begin bs p ≤ 18) → called_at version bs p ≡ further start (called_at version window at)
    by_run true e size =
        let none : run_from bs p ≡ 0 = is_zero (run_from bs p) e in let run = runs in
        let empty : run_from window at ≡ 0 = omega (arith, run, none) in
        no_run version bs p e ∙ sym (ap (further start) (no_run version window at (ap (λ n. n == 0) empty)))
    by_run false e (inl long) = long_call (is_some (run_from bs p) e) long
    by_run false e (inr short) = short_call e (is_some (run_from bs p) e) short

-- what is called in the stretch of a text is called there
pub called_there : (version : ℕ) (characters : List ℕ) (text : Text ℕ) (p start : ℕ) (window : List ℕ)
    (call : Option (Command × ℕ))
    → start ≡ p - 18 → p ≤ length text → window ≡ take 37 (drop start (bytes_of_text characters text))
    → call ≡ called_at version window (p - start) → further start call ≡ called_at version (bytes_of_text characters text) p
called_there version characters text p start window call starts within read is =
    let size = length-bytes characters text in
    ap (further start) (is ∙ ap (λ w. called_at version w (p - start)) read)
    ∙ sym (called_in_window version (bytes_of_text characters text) p start starts (omega (arith, within, size)))

-- ---- the word is the longest run

begin_passes : (bs : List ℕ) (p k : ℕ) → word_begin bs p ≤ k → k < p → is_name_byte (slice_index bs k) ≡ true
begin_passes bs zero k low high = absurd (omega (arith, high))
begin_passes bs (suc p) k low high = by_byte (begin_passes bs p k) (is_name_byte (slice_index bs p)) refl
    (cases_lt k p) where
      by_byte : (word_begin bs p ≤ k → k < p → is_name_byte (slice_index bs k) ≡ true) → (b : Bool)
          → is_name_byte (slice_index bs p) ≡ b → (k < p) ⊎ (p ≤ k)
          → is_name_byte (slice_index bs k) ≡ true
      by_byte before true h (inl less) = before (omega (arith, low, begin_inside bs p h)) less
      by_byte before true h (inr other) = let is : k ≡ p = omega (arith, other, high) in
          ap (λ n. is_name_byte (slice_index bs n)) is ∙ h
      by_byte before false h side = absurd (omega (arith, low, high, begin_outside bs p h))

begin_stops : (bs : List ℕ) (p : ℕ) → 0 < word_begin bs p → is_name_byte (slice_index bs (word_begin bs p - 1)) ≡ false
begin_stops bs zero some = absurd (omega (arith, some, begin_zero bs))
begin_stops bs (suc p) some = by_byte (begin_stops bs p) (is_name_byte (slice_index bs p)) refl where
  by_byte : (0 < word_begin bs p → is_name_byte (slice_index bs (word_begin bs p - 1)) ≡ false) → (b : Bool)
      → is_name_byte (slice_index bs p) ≡ b
      → is_name_byte (slice_index bs (word_begin bs (suc p) - 1)) ≡ false
  by_byte before true h = let same = begin_inside bs p h in
      ap (λ n. is_name_byte (slice_index bs (n - 1))) same ∙ before (omega (arith, some, same))
  by_byte before false h = let is : word_begin bs (suc p) - 1 ≡ p = omega (arith, begin_outside bs p h) in
      ap (λ n. is_name_byte (slice_index bs n)) is ∙ h

end_passes : (bs : List ℕ) (p k : ℕ) → p ≤ k → k < word_end bs p → is_name_byte (slice_index bs k) ≡ true
end_passes bs p k low high =
    let there : p + (k - p) ≡ k = omega (arith, low) in
    ap is_name_byte (ap (slice_index bs) (sym there) ∙ sym (get_or-drop p bs (k - p) 0))
    ∙ prefix_len_passes is_name_byte (drop p bs) (k - p) 0 (omega (arith, low, high))

end_stops : (bs : List ℕ) (p : ℕ) → word_end bs p < length bs → is_name_byte (slice_index bs (word_end bs p)) ≡ false
end_stops bs p more =
    ap is_name_byte (sym (get_or-drop p bs (run_from bs p) 0)) ∙ prefix_len_stops is_name_byte (drop p bs) 0
    (omega (arith, more, length-drop p bs))

pub word_is_longest : WordIsLongest
word_is_longest bs p more here = record {
  before = begin_within bs p;
  after = let one = prefix_len-drop_yes is_name_byte bs p 0 more here in omega (arith, one);
  within = end_within bs p (omega (arith, more));
  run = λ k low high. by_side k low high (cases_lt k p);
  first = begin_stops bs p;
  last = end_stops bs p;
}
  where
    by_side : (k : ℕ) → word_begin bs p ≤ k → k < word_end bs p → (k < p) ⊎ (p ≤ k)
        → is_name_byte (slice_index bs k) ≡ true
    by_side k low high (inl less) = begin_passes bs p k low less
    by_side k low high (inr other) = end_passes bs p k other high
