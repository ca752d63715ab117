-- How calls of a reader or a writer are counted.
use Rattle.std.specs.Prelude.{◌≡◌, ◌<◌, ℕ, Result, MatchResult, IsOkAnd, IsErr}
pub use Rattle.ghost_traces.specs.Counting.{CountsFault}

-- a number of failures that rose exactly where this holds, and otherwise stayed
pub record RisesWhere (when : Type 0) (old new : ℕ) : Type 0 where
  pub rose : when → old < new
  pub calm : ¬ when → new ≡ old

-- what a call of the host returned is told on: a value as it is, and a failure as one
abbrev pub PassesOn : {T E F : Type 0} → Result T E → Result T F → Type 0
PassesOn host told = MatchResult host (λ value. IsOkAnd told (λ same. same
    ≡ value)) (λ _. IsErr told)
