-- How failures are counted.
use Rattle.std.specs.Prelude.{◌≡◌, ◌<◌, ℕ, Result, MatchResult}

-- a number of failures that rose exactly where the call returned an error, and otherwise stayed
abbrev pub CountsFault : {T E : Type 0} → Result T E → ℕ → ℕ → Type 0
CountsFault result old new = MatchResult result (λ _. new ≡ old) (λ _. old < new)
