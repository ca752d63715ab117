-- A store that is laid on another disk, part by part. `source` is what stands on the one disk, where the store begins
-- in sector `base`, and `old` and `new` what the other one reads before and after.
use Rattle.std.specs.Prelude.{◌≡◌, ◌⊎◌, ◌+◌, ◌*◌, ◌<◌, ◌≤◌, ◌^◌, ℕ, replicate}
use Rattle.sector_disk.specs.Trail.{Content, now}
use Rattle.sector_disk.specs.declared.disk.TheConstants.{SECTOR_BYTES}
use Rattle.sector_disk.specs.declared.disk.Disk.{Ghosts}
use Rattle.store_layout.specs.declared.head.Head.{Head}
use Rattle.store_layout.specs.declared.layout.TheConstants.{STORE_SECTORS}
use Rattle.store_layout.specs.Filling.{InRange}
use Rattle.store_layout.specs.Layout.{area_at, head, image_at, IsGoodHead}
use Rattle.store_layout.specs.Meaning.{Standing, Stands, full_sectors}

-- from this sector on the content has a store that shows this
abbrev pub StandsFrom : Content → ℕ → Standing → Type 0
StandsFrom c base t = Stands STORE_SECTORS (λ n. c (base + n)) t

-- each sector of a disk reads as zeros
abbrev pub ReadsZeros : {E : Type 0} → Ghosts E → E → Type 0
ReadsZeros e disk = (n : ℕ) → (now (e.trail disk)).reads n ≡ replicate SECTOR_BYTES 0

-- it has room for a store, and no byte of it was written
pub record IsBlankRoom {E : Type 0} (e : Ghosts E) (disk : E) : Type 0 where
  pub room : STORE_SECTORS ≤ e.size disk
  pub zeros : ReadsZeros e disk

-- a disk of this size has those of a store from this one on
pub record HasStoreRoom (size base : ℕ) : Type 0 where
  pub numbered : base + STORE_SECTORS < 2 ^ 32
  pub room : base + STORE_SECTORS ≤ size

-- each sector reads zeros, or what the store has there
abbrev pub IsLaying : Content → ℕ → Content → Type 0
IsLaying source base c = (n : ℕ) → n < STORE_SECTORS
    → (c n ≡ replicate SECTOR_BYTES 0) ⊎ (c n ≡ source (base + n))

-- so it does still, and what was laid is there
pub record StaysLaid (source : Content) (base : ℕ) (old new : Content) : Type 0 where
  pub laying : IsLaying source base new
  pub kept : (n : ℕ) → n < STORE_SECTORS → old n ≡ source (base + n) → new n ≡ source (base + n)

-- so many sectors were laid, from `from` on
pub record HasLaid (source : Content) (base from count : ℕ) (old new : Content) : Type 0 where
  pub stays : StaysLaid source base old new
  pub laid : (n : ℕ) → InRange from count n → new n ≡ source (base + n)

-- the image and the characters were laid that this head of a slot names
pub record HasLaidHead (source : Content) (base slot : ℕ) (h : Head) (new : Content) : Type 0 where
  pub image : (k : ℕ) → SECTOR_BYTES * k < h.extent
      → new (image_at slot + k) ≡ source (base + (image_at slot + k))
  pub area : (k : ℕ) → k < full_sectors h.written
      → new (area_at h.area k) ≡ source (base + area_at h.area k)

-- and those of this slot, if its head is good
pub record HasLaidSlot (source : Content) (base slot : ℕ) (old new : Content) : Type 0 where
  pub stays : StaysLaid source base old new
  pub named : IsGoodHead (head (λ n. source (base + n)) slot)
      → HasLaidHead source base slot (head (λ n. source (base + n)) slot) new
