-- Which texts spell a number: its decimal digits alone.
use Rattle.std.proofs.Common.{◌≡◌, ℕ, zero, suc, ◌+◌, ◌-◌, ◌*◌, ◌/◌, ◌%◌, ◌<◌, ◌≤◌, Bool, true, false, cond, List, [], ◌∷◌, ◌++◌}
use Rattle.std.proofs.Common.{Option, None, Some, refl, sym, ap, ◌∙◌, subst, arith, append_assoc, append-nil}
use Rattle.std.proofs.Common.{inl, inr}
use Rattle.std.specs.Prelude.{◌==◌, ◌&&◌, not, nat_le, ◌↔◌}
use Rattle.std.specs.Fmt.{decimal}
use Rattle.std.specs.List.{find, range_with_len}
use Rattle.std.specs.Str.{bytes_eq}
use Rattle.std.proofs.lemmas.Bool.{cases_lt, cond-true, cond-false}
use Rattle.std.proofs.lemmas.Bool.Decides.{nat_tests}
use Rattle.std.proofs.lemmas.Slice.Eq.{bytes_eq-Decides}
use Rattle.std.proofs.lemmas.Fmt.{decimal_digit, decimal_step}
use Rattle.event_bytes.specs.Bytes.{is_digit}
use Rattle.script_lines.specs.Words.{◌>>=◌, to_number}
use Rattle.script_lines.specs.Digits.{one_more, number_from, read_number}

-- ---- one digit

abbrev goes_on : ℕ → ℕ → Bool
goes_on n b = is_digit b && (not (n == 0) && nat_le (10 * n + (b - 48)) 255)

-- k is n with the digit b more
record IsMore (n b k : ℕ) : Type 0 where
  low : 48 ≤ b
  high : b ≤ 57
  some : 0 < n
  value : k ≡ 10 * n + (b - 48)
  small : k ≤ 255

passed : (b : Bool) (x k : ℕ) → (let found : Option ℕ = cond b (Some x) None in found) ≡ Some k
    → (b ≡ true) × (k ≡ x)
passed true x k is = (refl, cc)
passed false x k is = absurd cc

digit_low : (n b : ℕ) → goes_on n b ≡ true → 48 ≤ b
unfolding is_digit
digit_low n b h = grind (arith, nat_tests)

digit_high : (n b : ℕ) → goes_on n b ≡ true → b ≤ 57
unfolding is_digit
digit_high n b h = grind (arith, nat_tests)

not_zero : (n b : ℕ) → goes_on n b ≡ true → 0 < n
unfolding is_digit
not_zero n b h = grind (arith, nat_tests)

stays_small : (n b : ℕ) → goes_on n b ≡ true → 10 * n + (b - 48) ≤ 255
unfolding is_digit
stays_small n b h = grind (arith, nat_tests)

is_more : (n b k : ℕ) → one_more n b ≡ Some k → IsMore n b k
unfolding one_more
is_more n b k is =
    let found : (goes_on n b ≡ true) × (k ≡ 10 * n + (b - 48)) = passed (goes_on n b) (10 * n + (b - 48)) k is in
    record {
      low = digit_low n b found.0;
      high = digit_high n b found.0;
      some = not_zero n b found.0;
      value = found.1;
      small = subst (λ (m : ℕ). m ≤ 255) (sym found.1) (stays_small n b found.0);
    }

test_passed : (n b : ℕ) → 48 ≤ b → b ≤ 57 → 0 < n → 10 * n + (b - 48) ≤ 255 → goes_on n b ≡ true
unfolding is_digit
test_passed n b low high some small = grind (arith, nat_tests)

more_is : (n b k : ℕ) → IsMore n b k → one_more n b ≡ Some k
unfolding one_more
more_is n b k more =
    cond-true (goes_on n b) (Some (10 * n + (b - 48))) None
    (test_passed n b more.low more.high more.some (subst (λ (m : ℕ). m ≤ 255) more.value more.small))
    ∙ ap (λ (m : ℕ). Some m) (sym more.value)

-- ---- what spells a number is its decimal digits

digits_more : (m b k : ℕ) → IsMore m b k → decimal k ≡ decimal m ++ b ∷ []
digits_more m b k more =
    let front : k / 10 ≡ m = omega (arith, more.low, more.high, more.value) in
    let last : 48 + k % 10 ≡ b = omega (arith, more.low, more.high, more.value) in
    decimal_step k (omega (arith, more.some, more.value)) (omega (arith, more.small))
    ∙ (λ i. decimal (front i) ++ last i ∷ [])

-- so many digits more spell n
record Spells (m : ℕ) (bs : List ℕ) (n : ℕ) : Type 0 where
  small : n ≤ 255
  digits : decimal n ≡ decimal m ++ bs

spells_more : (m b : ℕ) (bs : List ℕ) (n : ℕ) (o : Option ℕ) → one_more m b ≡ o
    → ((k : ℕ) → k ≤ 255 → number_from k bs ≡ Some n → Spells k bs n) → (o >>= λ k. number_from k bs) ≡ Some n
    → Spells m (b ∷ bs) n
spells_more m b bs n None same rest is = absurd cc
spells_more m b bs n (Some k) same rest is =
    let more = is_more m b k same in
    let all : Spells k bs n = rest k more.small is in
    record {
      small = all.small;
      digits = all.digits ∙ ap (λ (l : List ℕ). l ++ bs) (digits_more m b k more)
          ∙ append_assoc (decimal m) (b ∷ []) bs;
    }

spells_from : (m : ℕ) (bs : List ℕ) (n : ℕ) → m ≤ 255 → number_from m bs ≡ Some n → Spells m bs n
unfolding number_from
spells_from m [] n small is =
    let same : m ≡ n = cc in
    subst (λ (k : ℕ). Spells m [] k) same (record { small = small; digits = sym (append-nil (decimal m)) })
spells_from m (b ∷ bs) n small is = spells_more m b bs n (one_more m b) refl (λ k. spells_from k bs n) is

is_first : (b : ℕ) (o : Option ℕ) (n : ℕ)
    → (let found : Option ℕ = cond (is_digit b) o None in found) ≡ Some n → (is_digit b ≡ true) × (o ≡ Some n)
is_first b o n is = passes (is_digit b) is
  where
    passes : (c : Bool) → (let found : Option ℕ = cond c o None in found) ≡ Some n → (c ≡ true) × (o ≡ Some n)
    passes true is = (refl, is)
    passes false is = absurd cc

first_low : (b : ℕ) → is_digit b ≡ true → 48 ≤ b
unfolding is_digit
first_low b h = grind (arith, nat_tests)

first_high : (b : ℕ) → is_digit b ≡ true → b ≤ 57
unfolding is_digit
first_high b h = grind (arith, nat_tests)

spelled_is : (text : List ℕ) (n : ℕ) → read_number text ≡ Some n → (n ≤ 255) × (text ≡ decimal n)
unfolding read_number
spelled_is [] n is = absurd cc
spelled_is (b ∷ bs) n is =
    let first : (is_digit b ≡ true) × (number_from (b - 48) bs ≡ Some n) = is_first b (number_from (b - 48) bs) n is in
    let low = first_low b first.0 in
    let high = first_high b first.0 in
    let all : Spells (b - 48) bs n = spells_from (b - 48) bs n (omega (arith, high)) first.1 in
    let same : 48 + (b - 48) ≡ b = omega (arith, low) in
    let digit : decimal (b - 48) ≡ b ∷ [] = decimal_digit (b - 48) (omega (arith, low, high))
    ∙ ap (λ (k : ℕ). k ∷ []) same in
    (all.small, sym (all.digits ∙ ap (λ (l : List ℕ). l ++ bs) digit))

-- ---- the decimal digits of a number spell it

step_through : (o : Option ℕ) (f g h : ℕ → Option ℕ) → ((k : ℕ) → f k ≡ g k >>= h) → (o >>= f) ≡ ((o >>= g) >>= h)
step_through None f g h each = refl
step_through (Some k) f g h each = each k

some_again : (o : Option ℕ) → (o >>= λ k. Some k) ≡ o
some_again None = refl
some_again (Some k) = refl

last_from : (m : ℕ) (xs : List ℕ) (b : ℕ)
    → number_from m (xs ++ b ∷ []) ≡ (number_from m xs >>= λ k. one_more k b)
unfolding number_from
last_from m [] b = some_again (one_more m b)
last_from m (x ∷ xs) b = step_through (one_more m x) (λ k. number_from k (xs ++ b ∷ [])) (λ k. number_from k xs)
    (λ k. one_more k b) (λ k. last_from k xs b)

last_of : (xs : List ℕ) (b : ℕ) (m k : ℕ) → read_number xs ≡ Some m → one_more m b ≡ Some k
    → read_number (xs ++ b ∷ []) ≡ Some k
unfolding read_number
last_of [] b m k is more = absurd cc
last_of (x ∷ xs) b m k is more =
    let first : (is_digit x ≡ true) × (number_from (x - 48) xs ≡ Some m) = is_first x (number_from (x - 48) xs) m is in
    cond-true (is_digit x) (number_from (x - 48) (xs ++ b ∷ [])) None first.0 ∙ last_from (x - 48) xs b
    ∙ ap (λ (o : Option ℕ). o >>= λ j. one_more j b) first.1 ∙ more

is_digit_of : (n : ℕ) → n < 10 → is_digit (48 + n) ≡ true
unfolding is_digit
is_digit_of n small = grind (arith, nat_tests)

one_digit : (n : ℕ) → n < 10 → read_number (decimal n) ≡ Some n
unfolding read_number number_from
one_digit n small =
    let same : 48 + n - 48 ≡ n = omega arith in
    ap read_number (decimal_digit n small)
    ∙ cond-true (is_digit (48 + n)) (Some (48 + n - 48)) None (is_digit_of n small) ∙ ap (λ (k : ℕ). Some k) same

digit_more : (n : ℕ) → 10 ≤ n → n ≤ 255 → read_number (decimal (n / 10)) ≡ Some (n / 10) → read_number (decimal n) ≡ Some n
digit_more n large small front =
    let more : IsMore (n / 10) (48 + n % 10) n = record {
      low = omega arith;
      high = omega arith;
      some = omega (arith, large);
      value = omega arith;
      small = small;
    } in
    ap read_number (decimal_step n large (omega (arith, small)))
    ∙ last_of (decimal (n / 10)) (48 + n % 10) (n / 10) n front (more_is (n / 10) (48 + n % 10) n more)

two_digits : (n : ℕ) → n < 100 → read_number (decimal n) ≡ Some n
two_digits n small = elim (cases_lt n 10) [
  | inl one ↦ one_digit n one
  | inr large ↦ digit_more n large (omega (arith, small)) (one_digit (n / 10) (omega (arith, small)))
]

is_spelled : (n : ℕ) → n ≤ 255 → read_number (decimal n) ≡ Some n
is_spelled n small = elim (cases_lt n 10) [
  | inl one ↦ one_digit n one
  | inr large ↦ digit_more n large small (two_digits (n / 10) (omega (arith, small)))
]

read_decimals : (text : List ℕ) (n : ℕ) → (read_number text ≡ Some n) ↔ ((n ≤ 255) × (text ≡ decimal n))
read_decimals text n = (spelled_is text n, λ is. ap read_number is.1 ∙ is_spelled n is.0)

-- ---- the same by its definition

-- the only number that passes is found: it is the first one, or among the others
finds_on : (test : ℕ → Bool) (n a len : ℕ) → test n ≡ true → ((m : ℕ) → m < a + suc len → test m ≡ true → m ≡ n)
    → a ≤ n → (a + 1 ≤ n → find test (range_with_len (a + 1) len) ≡ Some n) → (b : Bool) → test a ≡ b
    → find test (range_with_len a (suc len)) ≡ Some n
finds_on test n a len is only above others true here =
    let same : a ≡ n = only a (omega arith) here in
    cond-true (test a) (Some a) (find test (range_with_len (a + 1) len)) here ∙ ap (λ (k : ℕ). Some k) same
finds_on test n a len is only above others false here =
    cond-false (test a) (Some a) (find test (range_with_len (a + 1) len)) here ∙ others (elim (cases_lt a n) [
      | inl less ↦ omega (arith, less)
      | inr other ↦
          let same : n ≡ a = omega (arith, above, other) in
          let never : true ≡ false = sym is ∙ ap test same ∙ here in
          absurd cc
    ])

finds : (test : ℕ → Bool) (n a len : ℕ) → test n ≡ true → ((m : ℕ) → m < a + len → test m ≡ true → m ≡ n) → a ≤ n
    → n < a + len → find test (range_with_len a len) ≡ Some n
finds test n a zero is only above below = absurd (omega (arith, above, below))
finds test n a (suc len) is only above below = finds_on test n a len is only above
    (λ later. finds test n (a + 1) len is (λ m small. only m (omega (arith, small))) later (omega (arith, below)))
    (test a) refl

-- where none passes none is found
finds_none : (test : ℕ → Bool) (a len : ℕ) → ((m : ℕ) → m < a + len → test m ≡ false)
    → find test (range_with_len a len) ≡ None
finds_none test a zero none = refl
finds_none test a (suc len) none =
    cond-false (test a) (Some a) (find test (range_with_len (a + 1) len)) (none a (omega arith))
    ∙ finds_none test (a + 1) len (λ m small. none m (omega (arith, small)))

abbrev is_decimal : List ℕ → ℕ → Bool
is_decimal text n = bytes_eq (decimal n) text

-- a number whose digits these are is the one that they spell
decimal_read : (text : List ℕ) (m : ℕ) → m < 256 → is_decimal text m ≡ true → read_number text ≡ Some m
decimal_read text m small is = (read_decimals text m).1 (omega (arith, small), sym ((bytes_eq-Decides (decimal m) text).0 is))

pub number_is : (text : List ℕ) → to_number text ≡ read_number text
unfolding to_number
number_is text = by_reading (read_number text) refl
  where
    by_reading : (o : Option ℕ) → read_number text ≡ o → find (is_decimal text) (range_with_len 0 256) ≡ o
    by_reading (Some n) read =
        let spelled = (read_decimals text n).0 read in
        finds (is_decimal text) n 0 256 ((bytes_eq-Decides (decimal n) text).1 (sym spelled.1))
        (λ m small is. let same : Some m ≡ Some n = sym (decimal_read text m small is) ∙ read in cc) (omega arith)
        (omega (arith, spelled.0))
    by_reading None read = finds_none (is_decimal text) 0 256 (λ m small. not_there m small (is_decimal text m) refl)
      where
        not_there : (m : ℕ) → m < 256 → (b : Bool) → is_decimal text m ≡ b → is_decimal text m ≡ false
        not_there m small true is = absurd (let never : None ≡ Some m = sym read ∙ decimal_read text m small is in cc)
        not_there m small false is = is

pub only_decimals : (text : List ℕ) (n : ℕ) → (to_number text ≡ Some n) ↔ ((n ≤ 255) × (text ≡ decimal n))
only_decimals text n = subst (λ (o : Option ℕ). (o ≡ Some n) ↔ ((n ≤ 255) × (text ≡ decimal n))) (sym (number_is text))
    (read_decimals text n)
