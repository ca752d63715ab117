-- The sectors of a store and of its past, beside those of another disk.
use Rattle.std.specs.Prelude.{◌≡◌, ◌<◌, ◌≤◌, ◌+◌, ◌*◌, ◌⊎◌, ℕ, List}
use Rattle.sector_disk.specs.Trail.{Content}
use Rattle.sector_disk.specs.declared.file.TheConstants.{FILE_SECTORS}
use Rattle.past_pages.specs.declared.parts.TheConstants.{PARTS}

-- what a copy has of the sectors before `end`: those of the store, and those where a past may stand. The two between them tell
-- of a pair of disks, to which a copy doesn't belong
abbrev pub IsOfCopy : ℕ → ℕ → Type 0
IsOfCopy end n = (n < end) × ((n < FILE_SECTORS) ⊎ (PARTS ≤ n))

-- the copy holds the same there
abbrev pub IsCopy : ℕ → Content → Content → Type 0
IsCopy end one other = (n : ℕ) → IsOfCopy end n → other n ≡ one n

-- the sectors from one on up to another hold the same
abbrev pub HaveSameFrom : ℕ → ℕ → Content → Content → Type 0
HaveSameFrom first end one other = (n : ℕ) → first ≤ n → n < end → other n ≡ one n

-- this sector, if it holds other bytes
abbrev pub IsUnlike : ℕ → List ℕ → Content → ℕ → Type 0
IsUnlike n bytes content k = (k ≡ n) × ¬ (content n ≡ bytes)

-- one of these sectors, which holds something else in the other disk, if what the first one reads is known
abbrev pub DiffersBetween : Type 0 → ℕ → ℕ → Content → Content → ℕ → Type 0
DiffersBetween known first end one other n = (first ≤ n) × (n < end) × (known → ¬ (other n ≡ one n))

-- the sectors that are written for a copy: all of the store, so that there is room for them; behind it the last one, so that the
-- copy is as long, and those that hold something else
abbrev pub WantsWrite : Type 0 → ℕ → Content → Content → ℕ → Type 0
WantsWrite known end one other n = IsOfCopy end n
    × ((n < FILE_SECTORS) ⊎ (n + 1 ≡ end) ⊎ (known → ¬ (other n ≡ one n)))

-- how many sectors of a file of so many bytes a copy has: it ends with the file, if this has any byte where a past may stand, and
-- with the store otherwise
pub record IsEnd (sector limit length end : ℕ) : Type 0 where
  pub alone : length ≤ sector * PARTS → end ≡ FILE_SECTORS
  pub all : sector * PARTS < length → length ≤ sector * limit → length ≤ sector * end
  pub tight : sector * PARTS < length → sector * end < length + sector
  pub most : end ≤ limit
