-- Bytes that come one by one, and the sectors that they fill.
use Rattle.std.specs.Prelude.{◌≡◌, ◌<◌, ◌≤◌, ◌+◌, ◌*◌, ℕ, List, length, get_or}
use Rattle.std.specs.Borrow.{GName}
use Rattle.sector_disk.specs.declared.disk.Disk.{Ghosts}
use Rattle.sector_disk.specs.Trail.{Content}
use Rattle.sector_disk.specs.declared.disk.TheConstants.{SECTOR_BYTES}
use Rattle.store_layout.specs.declared.filling.Filling.{Filling}
use Rattle.store_layout.specs.Joined.{OnSameStretch}

-- the first sector that it fills, and how many it may fill
abbrev pub first_sector : Filling → ℕ
first_sector f = f.from

abbrev pub most_sectors : Filling → ℕ
most_sectors f = f.limit

-- sector n is one of so many from this one on
abbrev pub InRange : ℕ → ℕ → ℕ → Type 0
InRange from limit n = (from ≤ n) × (n < from + limit)

-- the sectors that it may fill
abbrev pub SectorsOf : Filling → ℕ → Type 0
SectorsOf f = InRange (first_sector f) (most_sectors f)

-- the bytes fill so many sectors, and the rest of them stand in the buffer with zeros after them
pub record IsSpread (c : Content) (from full used : ℕ) (buffer bytes : List ℕ) : Type 0 where
  pub count : length bytes ≡ SECTOR_BYTES * full + used
  pub above : (k j : ℕ) → k < full → j < SECTOR_BYTES
      → get_or (c (from + k)) j 0 ≡ get_or bytes (SECTOR_BYTES * k + j) 0
  pub rest : (j : ℕ) → j < SECTOR_BYTES
      → get_or buffer j 0 ≡ get_or bytes (SECTOR_BYTES * full + j) 0

-- Where these bytes fit the sectors, sectors and buffer have them. Of more bytes nothing is said: the last of them are
-- dropped.
abbrev pub HasTaken : Content → Filling → List ℕ → Type 0
HasTaken c f bytes = length bytes ≤ SECTOR_BYTES * most_sectors f
    → IsSpread c f.from f.full f.used f.buffer bytes

-- two states of a sink over the same disk and the same sectors, between which no other sector was written
abbrev pub OnSameSectors : {D : Type 0} → Ghosts D → D → D → Filling → Filling → GName → GName
    → GName → GName → Type 0
OnSameSectors d old new f f' = OnSameStretch d InRange old new (first_sector f) (first_sector f')
    (most_sectors f) (most_sectors f')
