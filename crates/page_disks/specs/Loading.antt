-- A disk of the sectors that a host has.
use Rattle.std.specs.Prelude.{◌≡◌, ◌+◌, ◌-◌, ◌*◌, ◌/◌, ℕ, List, [], take, drop, length, nat_lt, min, false, if◌then◌else◌, Option, Some, None}
use Rattle.sector_disk.specs.declared.disk.TheConstants.{SECTOR_BYTES}
use Rattle.sector_disk.specs.Trail.{Content, now}
use Rattle.past_pages.specs.declared.parts.TheConstants.{PAST_SECTORS}
use Rattle.page_disks.specs.Recording.{Recording, blank_recording, trail_since}

-- the bytes of the n-th sector of these
abbrev pub sector_of : List ℕ → ℕ → List ℕ
sector_of bytes n = take SECTOR_BYTES (drop (SECTOR_BYTES * n) bytes)

-- how many whole sectors they are, as far as a disk of this size has them from sector `first` on
abbrev pub whole_sectors : List ℕ → ℕ → ℕ → ℕ
whole_sectors bytes first size = min (length bytes / SECTOR_BYTES) (size - first)

-- The n sectors from `first` on read as these bytes, and the others as before.
abbrev pub ReadsWith : List ℕ → ℕ → ℕ → Content → Content → Type 0
ReadsWith bytes first n before after = (k : ℕ) → after k ≡ (if nat_lt k first then before k
    else if nat_lt k (first + n) then sector_of bytes (k - first) else before k)

-- These bytes were loaded from sector `first` on; nothing is pending, and none of the disk's calls is to be told.
pub record HasLoaded (bytes : List ℕ) (first : ℕ) (old new : Recording) : Type 0 where
  pub size : new.size ≡ old.size
  pub reads : ReadsWith bytes first (whole_sectors bytes first old.size)
      (now (trail_since old)).reads (now (trail_since new)).reads
  pub settled : (k : ℕ) → (now (trail_since new)).pending k ≡ false
  pub untold : new.since ≡ []

-- the disk on which sectors are loaded: the one on which some were, or one of zeros
abbrev pub disk_to_load : Option Recording → Recording
disk_to_load None = blank_recording PAST_SECTORS
disk_to_load (Some disk) = disk
