-- What is known of sectors behind a store.
use Rattle.std.specs.Prelude.{◌≡◌, ◌+◌, ◌<◌, ℕ, List, get_or}
use Rattle.sector_disk.specs.Trail.{Content}
use Rattle.sector_disk.specs.declared.disk.TheConstants.{SECTOR_BYTES}
use Rattle.store_layout.specs.Filling.{InRange}

-- two sectors hold the same bytes
abbrev pub HoldsSame : List ℕ → List ℕ → Type 0
HoldsSame bytes bytes' = (j : ℕ) → j < SECTOR_BYTES → get_or bytes j 0 ≡ get_or bytes' j 0

-- The content has copies of so many sectors of another one, from this one on, each `base` sectors further on.
abbrev pub HasCopies : ℕ → ℕ → ℕ → Content → Content → Type 0
HasCopies base from count was c = (n : ℕ) → InRange from count n → HoldsSame (c (base + n)) (was n)

-- the sector has zeros
abbrev pub IsBlank : List ℕ → Type 0
IsBlank bytes = (j : ℕ) → j < SECTOR_BYTES → get_or bytes j 0 ≡ 0

-- so many sectors have zeros, from this one on
abbrev pub AreBlank : ℕ → ℕ → Content → Type 0
AreBlank from count c = (n : ℕ) → InRange from count n → IsBlank (c n)
