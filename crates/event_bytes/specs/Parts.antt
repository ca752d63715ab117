-- Parts of a spelling: numbers and strings, how they are written and how they are read from the left.
use Rattle.std.specs.Prelude.{◌≡◌, ℕ, ◌+◌, ◌*◌, Bool, if◌then◌else◌, nat_lt, List, [], ◌∷◌, ◌++◌, length, take, drop}
use Rattle.std.specs.Prelude.{Option, Some, None}
use Rattle.std.specs.Option.{option_map}
use Rattle.std.specs.Int.{w16, to_be_bytes}
use Rattle.std.specs.Borrow.{Bor}

-- ---- writing

abbrev pub byte : ℕ → List ℕ
byte n = n ∷ []

-- two bytes, the higher first
abbrev pub word_bytes : ℕ → List ℕ
word_bytes n = to_be_bytes w16 n

-- bytes after their number
abbrev pub counted_bytes : (ℕ → List ℕ) → List ℕ → List ℕ
counted_bytes number bytes = number (length bytes) ++ bytes

-- ---- reading

-- A reader returns a value and the bytes after it, or None where the bytes begin with no such value.
abbrev pub Reader : Type 0 → Type 0
Reader A = List ℕ → Option (A × List ℕ)

infixl 10 ◌>>=◌
abbrev pub ◌>>=◌ : {A B : Type 0} → Option A → (A → Option B) → Option B
None >>= f = None
(Some x) >>= f = f x

-- a value that passes a test
abbrev pub when : {A : Type 0} → (A → Bool) → Reader A → Reader A
when test read bytes = do
  x ← read bytes
  if test x.0 then Some x else None

unfoldable pub byte_at : Reader ℕ
byte_at [] = None
byte_at (b ∷ bs) = if nat_lt b 256 then Some (b, bs) else None

unfoldable pub pair_at : Reader ℕ
pair_at bytes = do
  high ← byte_at bytes
  low ← byte_at high.1
  Some (high.0 * 256 + low.0, low.1)

-- so many bytes
unfoldable pub bytes_at : ℕ → Reader (List ℕ)
bytes_at n bytes = if nat_lt (length bytes) n then None else Some (take n bytes, drop n bytes)

unfoldable pub counted_at : Reader ℕ → Reader (List ℕ)
counted_at number_at bytes = do
  n ← number_at bytes
  bytes_at n.0 n.1

-- three values, one after another, and what is made of them
abbrev pub three_at : {A B C X : Type 0} → Reader A → Reader B → Reader C → (A → B → C → X)
    → Reader X
three_at first second third made bytes = do
  a ← first bytes
  b ← second a.1
  c ← third b.1
  Some (made a.0 b.0 c.0, c.1)

-- what a function over a slice returned, as a reader returns it: the value, and the slice that is left
abbrev pub value_and_rest : {A : Type 0} → Option (A × Bor (List ℕ)) → Option (A × List ℕ)
value_and_rest r = option_map (λ x. (x.0, x.1.now)) r

-- ---- what ties the two

-- The bytes are the writing of a value that fits, and the rest.
pub record TakesValue {A : Type 0} (write : A → List ℕ) (Fits : A
    → Type 0) (bytes : List ℕ) (x : A) (rest : List ℕ) : Type 0 where
  pub fits : Fits x
  pub parts : bytes ≡ write x ++ rest

-- What is read was written so, and what is written so is read, whatever follows.
pub record IsPart {A : Type 0} (write : A → List ℕ) (Fits : A → Type 0)
    (read : Reader A) : Type 0 where
  pub takes : (bytes : List ℕ) (x : A) (rest : List ℕ) → read bytes ≡ Some (x, rest)
      → TakesValue write Fits bytes x rest
  pub again : (x : A) (rest : List ℕ) → Fits x → read (write x ++ rest) ≡ Some (x, rest)
