-- What the places of words are: the nearest ones.
use Rattle.std.specs.Prelude.{◌≡◌, ℕ, ◌≤◌, ◌<◌, true, false, List, length, None, IfSome}
use Rattle.desktop_definitions.specs.Effects.{found_at}
use Rattle.sought_words.specs.Places.{found_before, stands_at}

-- q is the least position from p on at which the words are
pub record IsLeastFrom (bytes words : List ℕ) (p q : ℕ) : Type 0 where
  pub from : p ≤ q
  pub there : stands_at bytes words q ≡ true
  pub least : (r : ℕ) → p ≤ r → r < q → stands_at bytes words r ≡ false

-- q is the greatest one before p
pub record IsGreatestBefore (bytes words : List ℕ) (p q : ℕ) : Type 0 where
  pub before : q < p
  pub there : stands_at bytes words q ≡ true
  pub greatest : (r : ℕ) → q < r → r < p → stands_at bytes words r ≡ false

-- Onward the least one is found, and none only where there is none from there to the end.
abbrev pub LeastIsFound : Type 0
LeastIsFound = (bytes words : List ℕ) (p : ℕ)
    → IfSome (found_at bytes words p) (IsLeastFrom bytes words p)
    × (found_at bytes words p ≡ None → (r : ℕ) → p ≤ r → r ≤ length bytes
    → stands_at bytes words r ≡ false)

-- Backward the greatest one is found, and none only where there is none before.
abbrev pub GreatestIsFound : Type 0
GreatestIsFound = (bytes words : List ℕ) (p : ℕ)
    → IfSome (found_before bytes words p) (IsGreatestBefore bytes words p)
    × (found_before bytes words p ≡ None → (r : ℕ) → r < p → stands_at bytes words r ≡ false)
