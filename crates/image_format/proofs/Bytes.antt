-- So many bytes, read one by one.
use Rattle.std.proofs.Common.{◌≡◌, ℕ, zero, suc, ◌+◌, ◌≤◌, Bool, true, false, cond, List, [], ◌∷◌, length, take, drop}
use Rattle.std.proofs.Common.{Option, Some, None, Result, refl, sym, ap, subst, ◌∙◌, arith}
use Rattle.std.proofs.Common.{nat_lt, nat_le, if◌then◌else◌}
use Rattle.std.proofs.lemmas.Bool.{ltb-false, lt-ltb, le-ltb}
use Rattle.std.proofs.lemmas.List.{length-take-le}
use Rattle.event_bytes.specs.Bytes.{is_name}
use Rattle.event_bytes.specs.Parts.{◌>>=◌, when, byte_at, bytes_at, counted_at}
use Rattle.event_bytes.specs.Reading.{name_at}
use Rattle.desktop_definitions.specs.Limits.{most_pattern}
use Rattle.image_format.specs.declared.fault.ImageFault.{ImageFault}
use Rattle.image_format.specs.declared.source.ByteSource.{Ghosts as SourceGhosts}
use Rattle.image_format.specs.Steps.{any_at, short_at}
use Rattle.image_format.specs.Reading.{times, pattern_at}
use Rattle.image_format.specs.Streams.{Reads}

abbrev pub Anything : ℕ → ℕ → Type 0
Anything i b = Unit {0}

abbrev pub on : ℕ → ℕ → ℕ
on i b = i + 1

abbrev byte_before : ℕ → Option (List ℕ × List ℕ) → Option (List ℕ × List ℕ)
byte_before b read = read >>= λ x. Some (b ∷ x.0, x.1)

shorter : (m n : ℕ) → nat_lt (suc m) (suc n) ≡ nat_lt m n
shorter m n = grind arith

-- a byte more of those that there are
one_more : (b n : ℕ) (bytes : List ℕ) → bytes_at (suc n) (b ∷ bytes) ≡ byte_before b (bytes_at n bytes)
unfolding bytes_at
one_more b n bytes = rw (shorter (length bytes) n) (elim (nat_lt (length bytes) n) as (λ r.
    cond r None (Some (b ∷ take n bytes, drop n bytes))
    ≡ byte_before b (cond r None (Some (take n bytes, drop n bytes)))) [
      | true ↦ refl
      | false ↦ refl
    ])

pub bytes_are_times : (n i : ℕ) (bytes : List ℕ) → bytes_at n bytes ≡ times (λ i. any_at) on n i bytes
unfolding bytes_at times
bytes_are_times zero i bytes = rw (le-ltb (length bytes) 0 (omega arith)) refl
bytes_are_times (suc n) i [] = rw (lt-ltb 0 (suc n) (omega arith)) refl
bytes_are_times (suc n) i (b ∷ bytes) = one_more b n bytes ∙ ap (byte_before b) (bytes_are_times n (on i b) bytes)

module _ {S X : Type 0} {s : SourceGhosts S} {view : X → List ℕ} {result : Result X ImageFault} {old new : S} where
  pub read_as_bytes : (n i : ℕ) → Reads s view result (times (λ i. any_at) on n i) old new
      → Reads s view result (bytes_at n) old new
  read_as_bytes n i reads =
      subst (λ read. Reads s view result read old new) (λ k bytes. sym (bytes_are_times n i bytes) k) reads

-- ---- short lists of bytes

abbrev tested : (List ℕ → Bool) → Option (List ℕ × List ℕ) → Option (List ℕ × List ℕ)
tested test read = read >>= λ x. if test x.0 then Some x else None

-- only short lists pass the test
abbrev IsShortTest : (List ℕ → Bool) → Type 0
IsShortTest test = (x : List ℕ) → nat_le (length x) most_pattern ≡ false → test x ≡ false

-- so many bytes that are too many don't pass
too_many : (test : List ℕ → Bool) → IsShortTest test → (n : ℕ) (bytes : List ℕ) → nat_le n most_pattern ≡ false
    → tested test (bytes_at n bytes) ≡ None
unfolding bytes_at
too_many test short n bytes many = (elim (nat_lt (length bytes) n) as (λ r. nat_lt (length bytes) n ≡ r
    → tested test (if r then None else Some (take n bytes, drop n bytes)) ≡ None) [
      | true ↦ λ less. refl
      | false ↦ λ less.
          let le : n ≤ length bytes = ltb-false (length bytes) n less in
          rw (short (take n bytes) (ap (λ m. nat_le m most_pattern) (length-take-le n bytes le) ∙ many)) refl
    ]) refl

limited : (test : List ℕ → Bool) → IsShortTest test → (n : ℕ) (bytes : List ℕ)
    → tested test (bytes_at n bytes) ≡ tested test (if nat_le n most_pattern then bytes_at n bytes else None)
limited test short n bytes = (elim (nat_le n most_pattern) as (λ r. nat_le n most_pattern ≡ r
    → tested test (bytes_at n bytes) ≡ tested test (if r then bytes_at n bytes else None)) [
      | true ↦ λ few. refl
      | false ↦ λ many. too_many test short n bytes many
    ]) refl

short_when : (test : List ℕ → Bool) → IsShortTest test → (bytes : List ℕ)
    → when test (counted_at byte_at) bytes ≡ when test short_at bytes
unfolding short_at counted_at
short_when test short bytes = elim (byte_at bytes) as (λ r. tested test (r >>= λ n. bytes_at n.0 n.1)
    ≡ tested test (r >>= λ n. if nat_le n.0 most_pattern then bytes_at n.0 n.1 else None)) [
      | None ↦ refl
      | Some n ↦ limited test short n.0 n.1
    ]

pub pattern_is_short : (bytes : List ℕ)
    → pattern_at bytes ≡ when (λ pattern. nat_le (length pattern) most_pattern) short_at bytes
unfolding pattern_at
pattern_is_short bytes = short_when (λ pattern. nat_le (length pattern) most_pattern) (λ x long. long) bytes

pub name_is_short : (bytes : List ℕ) → name_at bytes ≡ when is_name short_at bytes
unfolding name_at
name_is_short bytes = short_when is_name (λ x long. rw long refl) bytes
