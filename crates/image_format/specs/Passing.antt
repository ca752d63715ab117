-- Bytes that come one after another.
use Rattle.std.specs.Prelude.{◌≡◌, ℕ, List, [], ◌∷◌, Option, Some, None}

-- what the next byte, or the end, leaves of the bytes to come
abbrev pub IsNext : Option ℕ → List ℕ → List ℕ → Type 0
IsNext (Some b) old new = old ≡ b ∷ new
IsNext None old new = (old ≡ []) × (new ≡ [])

-- A call that takes bytes from a source and does nothing else.
pub record OnlyGets {S : Type 0} (honest : S → Type 0) (same_ground : S → S → Type 0)
    (old new : S) : Type 0 where
  -- it is honest if it was
  pub still : honest old → honest new
  -- it stands on the same ground
  pub stands : same_ground old new
