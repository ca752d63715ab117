-- A disk beside another one.
use Rattle.std.specs.Prelude.{◌≡◌, ◌<◌, ◌⊎◌, ℕ, Result, MatchResult}
use Rattle.sector_disk.specs.Trail.{Content}

-- the first so many sectors hold the same
abbrev pub HaveSame : ℕ → Content → Content → Type 0
HaveSame count one other = (n : ℕ) → n < count → other n ≡ one n

-- a call over two disks failed just where one of them did
abbrev pub FailsWithEither : {T E : Type 0} → Result T E → ℕ → ℕ → ℕ → ℕ → Type 0
FailsWithEither result one one' other other' = MatchResult result
    (λ _. (one' ≡ one) × (other' ≡ other)) (λ _. (one < one') ⊎ (other < other'))
