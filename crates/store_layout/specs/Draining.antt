-- Bytes that are read one by one out of sectors.
use Rattle.std.specs.Prelude.{◌≡◌, ◌<◌, ◌+◌, ◌/◌, ◌%◌, ℕ, List, drop}
use Rattle.std.specs.Borrow.{GName}
use Rattle.sector_disk.specs.declared.disk.Disk.{Ghosts}
use Rattle.sector_disk.specs.Trail.{Content, Nowhere}
use Rattle.sector_disk.specs.declared.disk.TheConstants.{SECTOR_BYTES}
use Rattle.store_layout.specs.declared.draining.Draining.{Draining}
use Rattle.sector_disk.specs.Stored.{stored}
use Rattle.store_layout.specs.Joined.{OnSameStretch}

-- the first sector from which it reads, how many bytes it reads in all, and how many of them it has read
abbrev pub start_sector : Draining → ℕ
start_sector r = r.from

abbrev pub extent_of : Draining → ℕ
extent_of r = r.extent

abbrev pub bytes_read : Draining → ℕ
bytes_read r = r.at

-- the bytes that it has still to read
abbrev pub bytes_left : Content → Draining → List ℕ
bytes_left c r = drop (bytes_read r) (stored c (start_sector r) (extent_of r))

-- within a sector the buffer is that sector
abbrev pub IsSectorLoaded : Content → Draining → Type 0
IsSectorLoaded c r = ¬ (r.at % SECTOR_BYTES ≡ 0) → r.buffer ≡ c (r.from + r.at / SECTOR_BYTES)

-- the sectors of its bytes are on a disk of this size
abbrev pub IsOnDisk : ℕ → Draining → Type 0
IsOnDisk size r = (i : ℕ) → i < extent_of r → start_sector r + i / SECTOR_BYTES < size

-- two states of a source over the same disk and the same bytes, between which nothing was written
abbrev pub OnSameBytes : {D : Type 0} → Ghosts D → D → D → Draining → Draining → GName → GName
    → GName → GName → Type 0
OnSameBytes d old new r r' =
    OnSameStretch d (λ _ _. Nowhere) old new (start_sector r) (start_sector r')
    (extent_of r) (extent_of r')
