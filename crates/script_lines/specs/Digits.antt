-- A number as it is read, digit by digit.
use Rattle.std.specs.Prelude.{ℕ, ◌+◌, ◌-◌, ◌*◌, ◌==◌, ◌&&◌, not, nat_le, if◌then◌else◌, List, [], ◌∷◌, Option, Some, None}
use Rattle.event_bytes.specs.Bytes.{is_digit}
use Rattle.script_lines.specs.Words.{◌>>=◌}

-- a number below 256 with a decimal digit more; nothing follows a zero at the beginning
unfoldable pub one_more : ℕ → ℕ → Option ℕ
one_more n b = if is_digit b && (not (n == 0) && nat_le (10 * n + (b - 48)) 255)
    then Some (10 * n + (b - 48))
    else None

-- the number with these digits more
unfoldable pub number_from : ℕ → List ℕ → Option ℕ
number_from n [] = Some n
number_from n (b ∷ bs) = do
  more ← one_more n b
  number_from more bs

-- the number that digits spell
unfoldable pub read_number : List ℕ → Option ℕ
read_number [] = None
read_number (b ∷ bs) = if is_digit b then number_from (b - 48) bs else None
