-- More ways to put parts together: lists, options, tests of what was read, and parts that depend on earlier ones.
use Rattle.std.proofs.Common.{◌≡◌, ℕ, zero, suc, ◌-◌, ◌<◌, Bool, true, false, cond, List, [], ◌∷◌, ◌++◌, length, Option}
use Rattle.std.proofs.Common.{Some, None, refl, sym, ap, subst, ◌∙◌, append_assoc, arith}
use Rattle.std.specs.Prelude.{IfSome, ◌==◌, All, reverse}
use Rattle.std.proofs.lemmas.List.{length-reverse, get_or-reverse}
use Rattle.std.proofs.lemmas.List.Elements.{All-get_or, All-from_get_or}
use Rattle.std.specs.List.{flat_map}
use Rattle.std.proofs.lemmas.Bool.{eqb-true}
use Rattle.std.proofs.lemmas.List.Concat.{flat_map-cons}
use Rattle.event_bytes.specs.Parts.{Reader, ◌>>=◌, byte_at, TakesValue, IsPart}
use Rattle.event_bytes.proofs.PartLaws.{given, some_is, bind_some, test_some, IsTail, Nothing, whole, field}
use Rattle.event_bytes.proofs.PartLaws.{byte_part}
use Rattle.image_format.specs.Image.{optional, listed_bytes}
use Rattle.image_format.specs.Fitting.{Chain}
use Rattle.image_format.specs.Reading.{times, optional_at}

-- ---- what is left of a value

-- a value is known whole, and nothing of it is still to be read
pub done : {A : Type 0} {Known : A → Type 0} (a : A) → Known a → ((x : A) → Known x → a ≡ x)
    → IsTail Known (λ x. []) Nothing (λ bytes. Some (a, bytes))
done {A} {Known} a known all = record {
  takes = λ bytes x rest e.
      subst (λ (y : A × List ℕ). Known y.0 × TakesValue (λ x. []) Nothing bytes y.0 y.1)
      (some_is {A = A × List ℕ} (a, bytes) (x, rest) e) (known, record { fits = tt; parts = refl });
  again = λ x rest is fits. ap (λ b. given {A = A × List ℕ} (b, rest)) (all x is);
}

-- a test of what was read so far
pub tested : {A : Type 0} {Known : A → Type 0} {others : A → List ℕ} {OthersFit : A → Type 0} {next : Reader A}
    (test : A → Bool) (b : Bool) → ((a : A) → Known a → test a ≡ b) → (b ≡ true → IsTail Known others OthersFit next)
    → IsTail Known others (λ a. (test a ≡ true) × OthersFit a) (λ bytes. cond b (next bytes) None)
tested {A} {Known} {others} {OthersFit} {next} test b same rest_of = record {
  takes = λ bytes a rest e.
      let (holds, e1) = test_some b (next bytes) (a, rest) e in
      let (known, second) = (rest_of holds).takes bytes a rest e1 in
      (known, record { fits = (same a known ∙ holds, second.fits); parts = second.parts });
  again = λ a rest known fits.
      let holds = sym (same a known) ∙ fits.0 in
      ap (λ b. cond b (next (others a ++ rest)) None) holds ∙ (rest_of holds).again a rest known fits.1;
}

-- one field whose fitting depends on the fields before it, and then the others
pub ruled : {A X R : Type 0} {Known : A → Type 0} {write : X → List ℕ} {read : Reader X} {others : A → List ℕ}
    {OthersFit : A → Type 0} (Fits : R → X → Type 0) (next : X → Reader A)
    → (get : A → X) (rule : A → R) (r : R) → ((a : A) → Known a → rule a ≡ r) → IsPart write (Fits r) read
    → ((x : X) → Fits r x → IsTail (λ a. Known a × (get a ≡ x)) others OthersFit (next x))
    → IsTail Known (λ a. write (get a) ++ others a) (λ a. Fits (rule a) (get a) × OthersFit a)
    (λ bytes. read bytes >>= λ x. next x.0 x.1)
ruled {A} {X} {R} {Known} {write} {read} {others} {OthersFit} Fits next get rule r same part rest_of =
    let read_on = field {Known = Known} {OthersFit = OthersFit} next get part rest_of in record {
      takes = λ bytes a rest e.
          let (known, t) = read_on.takes bytes a rest e in
          let fits = subst (λ (q : R). Fits q (get a)) (sym (same a known)) t.fits.0 in
          (known, record { fits = (fits, t.fits.1); parts = t.parts });
      again = λ a rest known fits.
          read_on.again a rest known (subst (λ (q : R). Fits q (get a)) (same a known) fits.0, fits.1);
    }

-- ---- one after another

module _ {S A : Type 0} {write : A → List ℕ} {Fits : S → A → Type 0} {item : S → Reader A} (next : S → A → S)
    (part : (s : S) → IsPart write (Fits s) (item s)) where
  abbrev AreTaken : ℕ → S → List ℕ → List A → List ℕ → Type 0
  AreTaken n s bytes xs rest = (length xs ≡ n) × TakesValue (flat_map write) (Chain Fits next s) bytes xs rest

  regrouped : (x : A) (xs : List A) (rest : List ℕ)
      → flat_map write (x ∷ xs) ++ rest ≡ write x ++ (flat_map write xs ++ rest)
  regrouped x xs rest =
      ap (λ t. t ++ rest) (flat_map-cons write x xs) ∙ append_assoc (write x) (flat_map write xs) rest

  -- an item, and those after it
  one_more : (n : ℕ) (s : S) (bytes : List ℕ) (x : A) (after : List ℕ) (xs : List A) (rest : List ℕ)
      → TakesValue write (Fits s) bytes x after → AreTaken n (next s x) after xs rest
      → AreTaken (suc n) s bytes (x ∷ xs) rest
  one_more n s bytes x after xs rest first (count, others) = (
    ap suc count,
    record {
      fits = (first.fits, others.fits);
      parts = first.parts ∙ ap (λ t. write x ++ t) others.parts ∙ sym (regrouped x xs rest);
    },
  )

  times_take : (n : ℕ) (s : S) (bytes : List ℕ) (xs : List A) (rest : List ℕ)
      → times item next n s bytes ≡ Some (xs, rest) → AreTaken n s bytes xs rest
  unfolding times
  times_take zero s bytes xs rest e =
      subst (λ (y : List A × List ℕ). AreTaken 0 s bytes y.0 y.1)
      (some_is {A = List A × List ℕ} ([], bytes) (xs, rest) e) (refl, record { fits = tt; parts = refl })
  times_take (suc n) s bytes xs rest e =
      let (x, x_is, e1) = bind_some (item s bytes) _ _ e in
      let (ys, ys_is, e2) = bind_some (times item next n (next s x.0) x.1) _ _ e1 in
      subst (λ (y : List A × List ℕ). AreTaken (suc n) s bytes y.0 y.1)
      (some_is {A = List A × List ℕ} (x.0 ∷ ys.0, ys.1) (xs, rest) e2)
      (one_more n s bytes x.0 x.1 ys.0 ys.1 ((part s).takes bytes x.0 x.1 x_is)
      (times_take n (next s x.0) x.1 ys.0 ys.1 ys_is))

  times_again : (s : S) (xs : List A) (rest : List ℕ) → Chain Fits next s xs
      → times item next (length xs) s (flat_map write xs ++ rest) ≡ Some (xs, rest)
  unfolding times
  times_again s [] rest fits = refl
  times_again s (x ∷ xs) rest fits =
      ap (times item next (suc (length xs)) s) (regrouped x xs rest)
      ∙ rw (
        (part s).again x (flat_map write xs ++ rest) fits.0,
        times_again (next s x) xs rest fits.1,
      ) refl

  -- so many items, when their number was read
  pub items : (n : ℕ) (s : S)
      → IsTail (λ xs. Unit {0} × (length xs ≡ n)) (flat_map write) (Chain Fits next s) (times item next n s)
  items n s = record {
    takes = λ bytes xs rest e. let t = times_take n s bytes xs rest e in ((tt, t.0), t.1);
    again = λ xs rest known fits.
        ap (λ m. times item next m s (flat_map write xs ++ rest)) (sym known.1) ∙ times_again s xs rest fits;
  }

  -- their number, and so many items
  pub listed_part : {number : ℕ → List ℕ} {Counts : ℕ → Type 0} {number_at : Reader ℕ} (s : S)
      → IsPart number Counts number_at
      → IsPart (listed_bytes number write) (λ xs. Counts (length xs) × Chain Fits next s xs)
      (λ bytes. number_at bytes >>= λ n. times item next n.0 s n.1)
  listed_part s counts = whole (field (λ n. times item next n s) length counts (λ n _. items n s))

-- ---- nothing, or one

module _ {A : Type 0} {write : A → List ℕ} {Fits : A → Type 0} {read : Reader A} (part : IsPart write Fits read) where
  abbrev Here : List ℕ → Option A × List ℕ → Type 0
  Here bytes y = TakesValue (optional write) (λ o. IfSome o Fits) bytes y.0 y.1

  abbrev behind : Reader (Option A)
  behind bytes = read bytes >>= λ x. given {A = Option A × List ℕ} (Some x.0, x.1)

  one_taken : (bytes : List ℕ) (y : Option A × List ℕ) → behind bytes ≡ Some y → Here (1 ∷ bytes) y
  one_taken bytes y e =
      let (x, x_is, e1) = bind_some (read bytes) (λ x. given {A = Option A × List ℕ} (Some x.0, x.1)) y e in
      let t = part.takes bytes x.0 x.1 x_is in
      subst (Here (1 ∷ bytes)) (some_is {A = Option A × List ℕ} (Some x.0, x.1) y e1)
      (record { fits = t.fits; parts = ap (λ t. 1 ∷ t) t.parts })

  -- by what the flag says
  flagged : (n : ℕ) (none one : Bool) (bytes : List ℕ) (y : Option A × List ℕ) → (none ≡ true → n ≡ 0)
      → (one ≡ true → n ≡ 1)
      → cond none (given {A = Option A × List ℕ} (None, bytes)) (cond one (behind bytes) None) ≡ Some y
      → Here (n ∷ bytes) y
  flagged n true one bytes y zero_is one_is e =
      subst (Here (n ∷ bytes)) (some_is {A = Option A × List ℕ} (None, bytes) y e)
      (record { fits = tt; parts = ap (λ m. m ∷ bytes) (zero_is refl) })
  flagged n false true bytes y zero_is one_is e =
      subst (λ m. Here (m ∷ bytes) y) (sym (one_is refl)) (one_taken bytes y e)
  flagged n false false bytes y zero_is one_is e = absurd cc

  option_again : (o : Option A) (rest : List ℕ) → IfSome o Fits
      → optional_at read (optional write o ++ rest) ≡ Some (o, rest)
  unfolding byte_at
  option_again None rest fits = refl
  option_again (Some x) rest fits = rw (part.again x rest fits) refl

  pub optional_part : IsPart (optional write) (λ o. IfSome o Fits) (optional_at read)
  optional_part = record { takes = from; again = option_again }
    where
      from : (bytes : List ℕ) (o : Option A) (rest : List ℕ) → optional_at read bytes ≡ Some (o, rest)
          → TakesValue (optional write) (λ o. IfSome o Fits) bytes o rest
      from bytes o rest e =
          let (flag, flag_is, e1) =
          bind_some (byte_at bytes) (λ flag. cond (flag.0 == 0) (given {A = Option A × List ℕ} (None, flag.1))
          (cond (flag.0 == 1) (behind flag.1) None)) (o, rest) e in
          let first = byte_part.takes bytes flag.0 flag.1 flag_is in
          subst (λ bytes. Here bytes (o, rest)) (sym first.parts)
          (flagged flag.0 (flag.0 == 0) (flag.0 == 1) flag.1 (o, rest) (eqb-true flag.0 0) (eqb-true flag.0 1) e1)

-- ---- what holds of all items, in the other order

pub all_reversed : {X : Type 0} (P : X → Type 0) (xs : List X) (d : X) → All P xs → All P (reverse xs)
all_reversed P xs d all = All-from_get_or P (reverse xs) d (λ i low.
    let same = length-reverse xs in
    let place : length xs - 1 - i < length xs = omega (arith, low, same) in
    subst P (sym (get_or-reverse xs i d (omega (arith, low, same))))
    (All-get_or P xs (length xs - 1 - i) d place all))
