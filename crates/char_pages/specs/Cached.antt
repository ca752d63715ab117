-- What a cache of sectors holds: numbers of sectors, each with what the sector reads.
use Rattle.std.specs.Prelude.{◌≡◌, ◌⊎◌, ◌<◌, ◌≤◌, ◌+◌, ◌==◌, ℕ, List, Contains, length, count_by, slice_range}
use Rattle.std.specs.Prelude.{Result, IfOk}
use Rattle.sector_disk.specs.declared.disk.TheConstants.{SECTOR_BYTES}
use Rattle.sector_disk.specs.declared.disk.Disk.{Ghosts}
use Rattle.sector_disk.specs.Trail.{Content, Nowhere, CountsFault, now}
use Rattle.sector_disk.specs.Confined.{IsConfined}
use Rattle.lru.specs.LruCache.{LruCache}
use Rattle.char_pages.specs.declared.part.Part.{Part}

-- each entry is what the disk reads
pub record AreTrue (c : Content) (cached : List (ℕ × List ℕ)) : Type 0 where
  pub is : (entry : ℕ × List ℕ) → Contains cached entry → entry.1 ≡ c entry.0

-- each entry is one of so many sectors from `base` on
pub record AreBelow (base many : ℕ) (cached : List (ℕ × List ℕ)) : Type 0 where
  pub from : (entry : ℕ × List ℕ) → Contains cached entry → base ≤ entry.0
  pub to : (entry : ℕ × List ℕ) → Contains cached entry → entry.0 < base + many

-- each entry was there before, or is sector n, as the disk reads it where it is honest
pub record AddsSector (honest : Type 0) (c : Content) (n : ℕ)
    (old new : List (ℕ × List ℕ)) : Type 0 where
  pub each : (entry : ℕ × List ℕ) → Contains new entry
      → Contains old entry ⊎ ((entry.0 ≡ n) × (honest → entry.1 ≡ c n))

-- each entry was there before
pub record AddsNone (old new : List (ℕ × List ℕ)) : Type 0 where
  pub each : (entry : ℕ × List ℕ) → Contains new entry → Contains old entry

-- What a call leaves that wants sector n, of a cache and of the disk behind it: the cache may hold that sector besides,
-- and the disk is only read.
pub record LooksUp {D : Type 0} (d : Ghosts D) (n : ℕ) {T E : Type 0} (result : Result T E)
    (old new : D)
    (cache cache' : LruCache ℕ (List ℕ)) : Type 0 where
  pub cached : AddsSector (d.honest old) (now (d.trail old)).reads n cache.entries cache'.entries
  pub capacity : cache'.cap ≡ cache.cap
  pub kept : IsConfined d.size d.honest d.trail Nowhere old new
  pub cause : CountsFault result (d.failures old) (d.failures new)

-- so many bytes of a part of a sector are the wanted byte
pub record IsCountIn (sector : List ℕ) (part : Part) (found : ℕ) : Type 0 where
  pub whole : length sector ≡ SECTOR_BYTES
  pub exact : found ≡ count_by (λ b. b
      == part.wanted) (slice_range sector part.at (part.at + part.few))

-- what a call returns that wants sector n: of an honest disk this holds of it, and of the sector as a read gives it
abbrev pub TellsSector : {D T E : Type 0} → Ghosts D → ℕ → (List ℕ → T → Type 0) → Result T E → D
    → LruCache ℕ (List ℕ)
    → Type 0
TellsSector d n P result disk cache = IfOk result (λ told. d.honest disk
    → AreTrue (now (d.trail disk)).reads cache.entries → P ((now (d.trail disk)).reads n) told)
