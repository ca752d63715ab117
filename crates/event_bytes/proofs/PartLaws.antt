-- How parts are put together: each of these makes a part, or what is left of one, from others.
use Rattle.std.proofs.Common.{◌≡◌, ℕ, ◌+◌, ◌*◌, ◌/◌, ◌%◌, ◌^◌, ◌<◌, ◌≤◌, Bool, true, false, cond, ltb, List, [], ◌∷◌}
use Rattle.std.proofs.Common.{◌++◌, length, take, drop, Option, Some, None, refl, sym, ap, subst, ◌∙◌, append_assoc}
use Rattle.std.proofs.Common.{arith, length-append}
use Rattle.std.proofs.lemmas.Bool.{ltb-true, ltb-false, lt-ltb, le-ltb}
use Rattle.std.proofs.lemmas.List.{take-append-drop, length-take, take_at, drop_at}
use Rattle.event_bytes.specs.Parts.{Reader, ◌>>=◌, when, byte, word_bytes, counted_bytes, byte_at, pair_at, bytes_at, counted_at}
use Rattle.event_bytes.specs.Parts.{TakesValue, IsPart}

abbrev pub given : {A : Type 0} → A → Option A
given x = Some x

pub some_is : {A : Type 0} (x y : A) → given x ≡ given y → x ≡ y
some_is x y e = cc

-- the value of a step that did not fail
pub bind_some : {A B : Type 0} (r : Option A) (f : A → Option B) (y : B) → (r >>= f) ≡ Some y → (x : A) × (r ≡ Some x)
    × (f x ≡ Some y)
bind_some (Some x) f y e = (x, refl, e)
bind_some None f y e = absurd cc

-- a test that did not fail, and one that had to
pub test_some : {A : Type 0} (b : Bool) (x : Option A) (y : A) → cond b x None ≡ Some y → (b ≡ true) × (x ≡ Some y)
test_some true x y e = (refl, e)
test_some false x y e = absurd cc

pub unless_some : {A : Type 0} (b : Bool) (x : Option A) (y : A) → cond b None x ≡ Some y → (b ≡ false) × (x ≡ Some y)
unless_some true x y e = absurd cc
unless_some false x y e = (refl, e)

-- ---- the fields of a value, one after another

-- What IsPart says, of the fields of a value that are still to be read, where Known says what was read of it before.
pub record IsTail {A : Type 0} (Known : A → Type 0) (write : A → List ℕ) (Fits : A
    → Type 0) (read : Reader A) : Type 0 where
  pub takes : (bytes : List ℕ) (x : A) (rest : List ℕ) → read bytes ≡ Some (x, rest) → Known x
      × TakesValue write Fits bytes x rest
  pub again : (x : A) (rest : List ℕ) → Known x → Fits x → read (write x ++ rest) ≡ Some (x, rest)

abbrev pub Nothing : {A : Type 0} → A → Type 0
Nothing x = Unit {0}

-- all fields are a part
pub whole : {A : Type 0} {write : A → List ℕ} {Fits : A → Type 0} {read : Reader A} → IsTail Nothing write Fits read
    → IsPart write Fits read
whole tail = record {
  takes = λ bytes x rest e. (tail.takes bytes x rest e).1;
  again = λ x rest fits. tail.again x rest tt fits;
}

-- one field, and then the others
pub field : {A X : Type 0} {Known : A → Type 0} {write : X → List ℕ} {Fits : X → Type 0} {read : Reader X} {others : A
    → List ℕ} {OthersFit : A → Type 0} (next : X → Reader A)
    → (get : A → X) → IsPart write Fits read
    → ((x : X) → Fits x → IsTail (λ a. Known a × (get a ≡ x)) others OthersFit (next x))
    → IsTail Known (λ a. write (get a) ++ others a) (λ a. Fits (get a)
    × OthersFit a) (λ bytes. read bytes >>= λ x. next x.0 x.1)
field {A} {X} {Known} {write} {Fits} {read} {others} {OthersFit} next get part rest_of = record {
  takes = λ bytes a rest e.
      let (x, x_is, e1) = bind_some (read bytes) (λ x. next x.0 x.1) (a, rest) e in
      let first = part.takes bytes x.0 x.1 x_is in
      let (known, second) = (rest_of x.0 first.fits).takes x.1 a rest e1 in
      let text : bytes ≡ (write (get a) ++ others a) ++ rest = first.parts ∙ ap (λ t. write x.0 ++ t) second.parts
      ∙ ap (λ y. write y ++ (others a ++ rest)) (sym known.1)
      ∙ sym (append_assoc (write (get a)) (others a) rest) in
      (known.0, record { fits = (subst Fits (sym known.1) first.fits, second.fits); parts = text });
  again = λ a rest known fits.
      ap (λ bytes. read bytes >>= λ x. next x.0 x.1) (append_assoc (write (get a)) (others a) rest)
      ∙ ap (λ r. r >>= λ x. next x.0 x.1) (part.again (get a) (others a ++ rest) fits.0)
      ∙ (rest_of (get a) fits.0).again a rest (known, refl) fits.1;
}

-- the last field
pub last : {A X : Type 0} {Known : A → Type 0} {write : X → List ℕ} {Fits : X → Type 0} {read : Reader X}
    → (get : A → X) (make : X → A) → IsPart write Fits read
    → ((x : X) → Known (make x)) → ((x : X) → get (make x) ≡ x) → ((a : A) → Known a → make (get a) ≡ a)
    → IsTail Known (λ a. write (get a)) (λ a. Fits (get a)) (λ bytes. read bytes >>= λ x. Some (make x.0, x.1))
last {A} {X} {Known} {write} {Fits} {read} get make part made got all = record {
  takes = λ bytes a rest e.
      let (x, x_is, e1) = bind_some (read bytes) (λ x. Some (make x.0, x.1)) (a, rest) e in
      let first = part.takes bytes x.0 x.1 x_is in
      let p = some_is {A = A × List ℕ} (make x.0, x.1) (a, rest) e1 in
      let here : TakesValue (λ a. write (get a)) (λ a. Fits (get a)) bytes (make x.0) x.1 =
      record {
        fits = subst Fits (sym (got x.0)) first.fits;
        parts = first.parts
            ∙ ap (λ y. write y ++ x.1) (sym (got x.0));
      } in
      subst (λ (y : A × List ℕ). Known y.0
      × TakesValue (λ a. write (get a)) (λ a. Fits (get a)) bytes y.0 y.1) p (made x.0, here);
  again = λ a rest known fits. ap (λ r. r >>= λ x. Some (make x.0, x.1)) (part.again (get a) rest fits)
      ∙ ap (λ b. given {A = A × List ℕ} (b, rest)) (all a known);
}

-- ---- tests

-- a value that passes a test
pub only : {A : Type 0} {write : A → List ℕ} {Fits : A → Type 0} {read : Reader A} (test : A → Bool)
    → IsPart write Fits read → IsPart write (λ x. Fits x × (test x ≡ true)) (when test read)
only {A} {write} {Fits} {read} test part = record {
  takes = λ bytes a rest e.
      let (x, x_is, e1) = bind_some (read bytes) (λ x. cond (test x.0) (Some x) None) (a, rest) e in
      let (holds, e2) = test_some (test x.0) (Some x) (a, rest) e1 in
      let first = part.takes bytes x.0 x.1 x_is in
      let here : TakesValue write (λ x. Fits x × (test x ≡ true)) bytes x.0 x.1 =
      record { fits = (first.fits, holds); parts = first.parts } in
      subst (λ (y : A × List ℕ). TakesValue write (λ x. Fits x × (test x ≡ true)) bytes y.0 y.1)
      (some_is {A = A × List ℕ} x (a, rest) e2) here;
  again = λ a rest fits. ap (λ r. r >>= λ x. cond (test x.0) (Some x) None) (part.again a rest fits.0)
      ∙ ap (λ b. cond b (given {A = A × List ℕ} (a, rest)) None) fits.1;
}

-- other words for what fits
pub recast : {A : Type 0} {write : A → List ℕ} {Fits Fits' : A → Type 0} {read : Reader A}
    → ((x : A) → Fits x → Fits' x) → ((x : A) → Fits' x → Fits x) → IsPart write Fits read → IsPart write Fits' read
recast to back part = record {
  takes = λ bytes x rest e. let t = part.takes bytes x rest e in record { fits = to x t.fits; parts = t.parts };
  again = λ x rest fits. part.again x rest (back x fits);
}

-- ---- a value of several kinds

-- what was known of a value before it was read, and what is told by it
pub tail : {A : Type 0} {Known : A → Type 0} {write : A → List ℕ} {Fits : A → Type 0} {read : Reader A}
    → IsPart write (λ a. Fits a × Known a) read → IsTail Known write Fits read
tail part = record {
  takes = λ bytes x rest e. let t = part.takes bytes x rest e in
      (t.fits.1, record { fits = t.fits.0; parts = t.parts });
  again = λ x rest known fits. part.again x rest (fits, known);
}

-- a value that is made of another, in one way
pub made : {A X : Type 0} {write : X → List ℕ} {Fits : X → Type 0} {read : Reader X} {writing : A → List ℕ} {IsMade : A
    → Type 0} (make : X → A)
    → IsPart write Fits read → ((x : X) → writing (make x) ≡ write x) → ((x : X) → Fits x → IsMade (make x))
    → ((a : A) → IsMade a → (x : X) × ((make x ≡ a) × Fits x))
    → IsPart writing IsMade (λ bytes. read bytes >>= λ x. Some (make x.0, x.1))
made {A} {X} {write} {Fits} {read} {writing} {IsMade} make part same to from = record {
  takes = λ bytes a rest e.
      let (x, x_is, e1) = bind_some (read bytes) (λ x. Some (make x.0, x.1)) (a, rest) e in
      let first = part.takes bytes x.0 x.1 x_is in
      let here : TakesValue writing IsMade bytes (make x.0) x.1 =
      record { fits = to x.0 first.fits; parts = first.parts ∙ ap (λ t. t ++ x.1) (sym (same x.0)) } in
      subst (λ (y : A × List ℕ). TakesValue writing IsMade bytes y.0 y.1)
      (some_is {A = A × List ℕ} (make x.0, x.1) (a, rest) e1) here;
  again = λ a rest fits.
      let (x, known) = from a fits in
      subst (λ (y : A). (read (writing y ++ rest) >>= λ x. given {A = A × List ℕ} (make x.0, x.1)) ≡ Some (
        y,
        rest,
      )) known.0
      (ap (λ t. read (t ++ rest) >>= λ x. given {A = A × List ℕ} (make x.0, x.1)) (same x)
      ∙ ap (λ r. r >>= λ x. given {A = A × List ℕ} (make x.0, x.1)) (part.again x rest known.1));
}

-- one reader or another, as a test says
pub either : {A : Type 0} {write : A → List ℕ} {Fits : A → Type 0} {read other : Reader A} (b : Bool)
    → (b ≡ true → IsPart write Fits read) → (b ≡ false → IsPart write Fits other)
    → IsPart write Fits (λ bytes. cond b (read bytes) (other bytes))
either {A} {write} {Fits} {read} {other} b held failed =
    (elim b as (λ v. (v ≡ true → IsPart write Fits read) → (v ≡ false → IsPart write Fits other)
    → IsPart write Fits (λ bytes. cond v (read bytes) (other bytes))) [
      | true ↦ λ held failed. held refl
      | false ↦ λ held failed. failed refl
    ]) held failed

-- no value fits
pub none : {A : Type 0} {write : A → List ℕ} {Fits : A → Type 0} → ((a : A) → Fits a → ⊥)
    → IsPart write Fits (λ bytes. None)
none not_one = record { takes = λ bytes x rest e. absurd cc; again = λ x rest fits. absurd (not_one x fits) }

-- ---- numbers

pub byte_part : IsPart byte (λ n. n < 2 ^ 8) byte_at
unfolding byte_at
byte_part = record { takes = from; again = λ n rest fits. rw (lt-ltb n 256 fits) refl }
  where
    from : (bytes : List ℕ) (x : ℕ) (rest : List ℕ) → byte_at bytes ≡ Some (x, rest)
        → TakesValue byte (λ n. n < 2 ^ 8) bytes x rest
    from [] x rest e = absurd cc
    from (b ∷ bs) x rest e =
        let (small, e1) = test_some (ltb b 256) (Some (b, bs)) (x, rest) e in
        subst (λ (y : ℕ × List ℕ). TakesValue byte (λ n. n < 2 ^ 8) (b ∷ bs) y.0 y.1)
        (some_is {A = ℕ × List ℕ} (b, bs) (x, rest) e1) (record { fits = ltb-true b 256 small; parts = refl })

-- a value that is written as its number in one byte, where a test tells which numbers there are
pub numbered : {A : Type 0} (number : A → ℕ) (find : ℕ → Option A) → ((a : A) → number a < 2 ^ 8)
    → ((a : A) → find (number a) ≡ Some a)
    → ((n : ℕ) (a : A) → find n ≡ Some a → n ≡ number a)
    → IsPart (λ a. byte (number a)) (λ a. Unit {0}) (λ bytes. byte_at bytes >>= λ n. find n.0 >>= λ a. Some (a, n.1))
numbered {A} number find small again named = record { takes = from; again = back }
  where
    from : (bytes : List ℕ) (x : A) (rest : List ℕ)
        → (byte_at bytes >>= λ n. find n.0 >>= λ a. given {A = A × List ℕ} (a, n.1)) ≡ Some (x, rest)
        → TakesValue (λ a. byte (number a)) (λ a. Unit {0}) bytes x rest
    from bytes x rest e =
        let (n, n_is, e1) =
        bind_some (byte_at bytes) (λ n. find n.0 >>= λ a. given {A = A × List ℕ} (a, n.1)) (x, rest) e in
        let (a, a_is, e2) = bind_some (find n.0) (λ a. given {A = A × List ℕ} (a, n.1)) (x, rest) e1 in
        let first = byte_part.takes bytes n.0 n.1 n_is in
        let here : TakesValue (λ a. byte (number a)) (λ a. Unit {0}) bytes a n.1 = record {
          fits = tt;
          parts = first.parts ∙ ap (λ m. byte m ++ n.1) (named n.0 a a_is);
        } in
        subst (λ (y : A × List ℕ). TakesValue (λ a. byte (number a)) (λ a. Unit {0}) bytes y.0 y.1)
        (some_is {A = A × List ℕ} (a, n.1) (x, rest) e2) here

    back : (x : A) (rest : List ℕ) → Unit {0}
        → (byte_at (byte (number x) ++ rest) >>= λ n. find n.0 >>= λ a. given {A = A × List ℕ} (a, n.1)) ≡ Some (
          x,
          rest,
        )
    back x rest fits =
        ap (λ r. r >>= λ n. find n.0 >>= λ a. given {A = A × List ℕ} (a, n.1))
        (byte_part.again (number x) rest (small x))
        ∙ ap (λ r. r >>= λ a. given {A = A × List ℕ} (a, rest)) (again x)

two_bytes : (a b c d : ℕ) → a ≡ c → b ≡ d → a ∷ b ∷ [] ≡ c ∷ d ∷ []
two_bytes a b c d e f = cc

-- the word of a higher and a lower byte
word_of : (high low : ℕ) → high < 2 ^ 8 → low < 2 ^ 8 → word_bytes (high * 256 + low) ≡ high ∷ low ∷ []
word_of high low small small' =
    two_bytes _ _ _ _
    (let e : (high * 256 + low) / 256 % 256 ≡ high = omega (arith, small, small') in e)
    (let e : (high * 256 + low) % 256 ≡ low = omega (arith, small, small') in e)

pub word_part : IsPart word_bytes (λ n. n < 2 ^ 16) pair_at
unfolding pair_at byte_at
word_part = record { takes = from; again = back }
  where
    from : (bytes : List ℕ) (x : ℕ) (rest : List ℕ) → pair_at bytes ≡ Some (x, rest)
        → TakesValue word_bytes (λ n. n < 2 ^ 16) bytes x rest
    from bytes x rest e =
        let (high, high_is, e1) = bind_some (byte_at bytes) _ _ e in
        let (low, low_is, e2) = bind_some (byte_at high.1) _ _ e1 in
        let first = byte_part.takes bytes high.0 high.1 high_is in
        let second = byte_part.takes high.1 low.0 low.1 low_is in
        let here : TakesValue word_bytes (λ n. n < 2 ^ 16) bytes (high.0 * 256 + low.0) low.1 = record {
          fits = omega (arith, first.fits, second.fits);
          parts = first.parts ∙ ap (λ t. high.0 ∷ t) second.parts
              ∙ ap (λ t. t ++ low.1) (sym (word_of high.0 low.0 first.fits second.fits));
        } in
        subst (λ (y : ℕ × List ℕ). TakesValue word_bytes (λ n. n < 2 ^ 16) bytes y.0 y.1)
        (some_is {A = ℕ × List ℕ} (high.0 * 256 + low.0, low.1) (x, rest) e2) here

    back : (n : ℕ) (rest : List ℕ) → n < 2 ^ 16 → pair_at (word_bytes n ++ rest) ≡ Some (n, rest)
    back n rest small =
        let high : n / 256 % 256 < 256 = omega arith in
        let low : n % 256 < 256 = omega arith in
        let same : n / 256 % 256 * 256 + n % 256 ≡ n = omega (arith, small) in
        rw (lt-ltb _ _ high, lt-ltb _ _ low, same) refl

-- ---- bytes

-- so many bytes
bytes_take : (n : ℕ) (bytes x rest : List ℕ) → bytes_at n bytes ≡ Some (x, rest) → (bytes ≡ x ++ rest) × (length x ≡ n)
unfolding bytes_at
bytes_take n bytes x rest e =
    let (short, e1) = unless_some (ltb (length bytes) n) _ _ e in
    let long : n ≤ length bytes = ltb-false _ _ short in
    subst (λ (y : List ℕ × List ℕ). (bytes ≡ y.0 ++ y.1)
    × (length y.0 ≡ n)) (some_is {A = List ℕ × List ℕ} (take n bytes, drop n bytes) (x, rest) e1)
    (sym (take-append-drop n bytes), let e : length (take n bytes) ≡ n = omega (arith, length-take n bytes, long) in e)

bytes_again : (n : ℕ) (x rest : List ℕ) → length x ≡ n → bytes_at n (x ++ rest) ≡ Some (x, rest)
unfolding bytes_at
bytes_again n x rest len =
    rw (
      le-ltb _ _ (let e : n ≤ length (x ++ rest) = omega (arith, length-append x rest, len) in e),
      take_at x rest n len,
      drop_at x rest n len,
    ) refl

-- bytes after their number
pub counted_part : {number : ℕ → List ℕ} {Counts : ℕ → Type 0} {number_at : Reader ℕ} → IsPart number Counts number_at
    → IsPart (counted_bytes number) (λ x. Counts (length x)) (counted_at number_at)
unfolding counted_at
counted_part {number} {Counts} {number_at} part = record { takes = from; again = back }
  where
    from : (bytes x rest : List ℕ) → counted_at number_at bytes ≡ Some (x, rest)
        → TakesValue (counted_bytes number) (λ x. Counts (length x)) bytes x rest
    from bytes x rest e =
        let (n, n_is, e1) = bind_some (number_at bytes) (λ n. bytes_at n.0 n.1) (x, rest) e in
        let first = part.takes bytes n.0 n.1 n_is in
        let (text, len) = bytes_take n.0 n.1 x rest e1 in
        record {
          fits = subst Counts (sym len) first.fits;
          parts = first.parts ∙ ap (λ t. number n.0 ++ t) text ∙ ap (λ m. number m ++ (x ++ rest)) (sym len)
              ∙ sym (append_assoc (number (length x)) x rest);
        }

    back : (x rest : List ℕ) → Counts (length x) → counted_at number_at (counted_bytes number x ++ rest) ≡ Some (x, rest)
    back x rest fits =
        ap (counted_at number_at) (append_assoc (number (length x)) x rest)
        ∙ ap (λ r. r >>= λ n. bytes_at n.0 n.1) (part.again (length x) (x ++ rest) fits)
        ∙ bytes_again (length x) x rest refl
