-- The bytes that a text of a script stands for.
use Rattle.std.specs.Prelude.{ℕ, ◌+◌, ◌-◌, ◌*◌, ◌==◌, Bool, not, nat_le, if◌then◌else◌, List, [], ◌∷◌, length, Option, Some, None}
use Rattle.std.specs.Option.{option_map}
use Rattle.event_bytes.specs.Bytes.{lies_within, is_digit}
use Rattle.script_lines.specs.Words.{◌>>=◌}

-- the value of a hexadecimal digit of either case
abbrev pub digit_value : ℕ → Option ℕ
digit_value b = if is_digit b then Some (b - 48)
    else (if lies_within 65 70 b then Some (b - 55)
    else (if lies_within 97 102 b then Some (b - 87) else None))

-- the byte that two hexadecimal digits spell
unfoldable pub byte_of_digits : ℕ → ℕ → Option ℕ
byte_of_digits high low = digit_value high >>= λ h. digit_value low >>= λ l. Some (16 * h + l)

-- The bytes that a text stands for: each byte for itself, but a percent sign and the two hexadecimal digits after it
-- for the byte that they spell. None where a percent sign has no such digits after it.
unfoldable mutual
  pub meant : List ℕ → Option (List ℕ)
  meant [] = Some []
  meant (b ∷ bs) = if b == 37 then escaped bs else option_map (λ more. b ∷ more) (meant bs)

  pub escaped : List ℕ → Option (List ℕ)
  escaped (high ∷ low ∷ bs) =
      byte_of_digits high low >>= λ b. option_map (λ more. b ∷ more) (meant bs)
  escaped bs = None

-- ---- words of the code

-- a byte that isn't a percent sign
abbrev pub is_itself : ℕ → Bool
is_itself b = not (b == 37)

-- a byte before bytes that are known
abbrev pub in_front : ℕ → Option (List ℕ) → Option (List ℕ)
in_front b known = option_map (λ bs. b ∷ bs) known

-- those bytes, where they are no more than one event has
unfoldable pub few_meant : List ℕ → Option (List ℕ)
few_meant text = do
  bytes ← meant text
  if nat_le (length bytes) 900 then Some bytes else None
