-- A script as lines.
use Rattle.std.specs.Prelude.{◌≡◌, ◌≢◌, ℕ, List, [], ◌∷◌, ◌++◌}
use Rattle.std.specs.List.{AllByRecursion, flat_map}
use Rattle.screen_pictures.specs.Printed.{ended_line}

-- no line feed stands in it
abbrev pub IsLine : List ℕ → Type 0
IsLine bytes = AllByRecursion (λ b. b ≢ 10) bytes

-- The bytes are these lines, each with its line feed, and after the last one a rest without a line feed.
pub record IsSplit (bytes : List ℕ) (lines : List (List ℕ)) (rest : List ℕ) : Type 0 where
  pub whole : bytes ≡ flat_map ended_line lines ++ rest
  pub each : AllByRecursion IsLine lines
  pub last : IsLine rest

-- the lines of a script that has come to its end: a rest that isn't empty is the last of them
abbrev pub lines_at_end : List (List ℕ) → List ℕ → List (List ℕ)
lines_at_end lines [] = lines
lines_at_end lines (b ∷ bs) = lines ++ (b ∷ bs) ∷ []

-- These are the lines of the script, a last one without a line feed too.
pub record AreLines (script : List ℕ) (lines : List (List ℕ)) : Type 0 where
  pub ends : List (List ℕ)
  pub rest : List ℕ
  pub split : IsSplit script ends rest
  pub are : lines ≡ lines_at_end ends rest

-- The script begins with these lines: more may follow.
abbrev pub BeginsWith : List ℕ → List (List ℕ) → Type 0
BeginsWith script lines = (more : List (List ℕ)) × AreLines script (lines ++ more)

-- bytes are split into lines in one way
abbrev pub OneSplit : Type 0
OneSplit = (bytes : List ℕ) (lines others : List (List ℕ)) (rest end : List ℕ)
    → IsSplit bytes lines rest → IsSplit bytes others end → (lines ≡ others) × (rest ≡ end)

-- and there is one
abbrev pub SomeSplit : Type 0
SomeSplit = (bytes : List ℕ) → (lines : List (List ℕ)) × (rest : List ℕ) × IsSplit bytes lines rest
