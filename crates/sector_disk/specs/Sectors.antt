-- What a disk in memory keeps of its sectors: the bytes of each that was written, and those that each pending one had
-- at the last sync.
use Rattle.std.specs.Prelude.{◌≡◌, ℕ, List, Option, None, Some}
use Rattle.std.specs.Option.{is_some, unwrap_or}
use Rattle.std.specs.Ordering.{nat_cmp}
use Rattle.std.specs.BTreeMap.{get}
use Rattle.sector_disk.specs.declared.call.DiskCall.{DiskCall}
use Rattle.sector_disk.specs.declared.sectors.KnownSector.{KnownSector}
use Rattle.sector_disk.specs.declared.sectors.Sectors.{Sectors}
use Rattle.sector_disk.specs.Settled.{settled_place}
use Rattle.sector_disk.specs.Trail.{Content, Moment, now, written}
use Rattle.sector_disk.specs.Memory.{zeros, trail_of, IsLastSync}

-- the bytes of a sector that may have been written
abbrev pub latest_bytes : Option KnownSector → List ℕ
latest_bytes None = zeros
latest_bytes (Some sector) = sector.bytes

-- what is kept of a pending sector as it was at the last sync
abbrev pub settled_in : List (ℕ × List ℕ) → ℕ → Option KnownSector → Option (List ℕ)
settled_in settled n None = None
settled_in settled n (Some sector) = settled_place settled n sector.place

unfoldable pub settled_of : Sectors → ℕ → Option (List ℕ)
settled_of s n = settled_in s.settled n (get nat_cmp s.latest n)

-- what a read of each sector gives, and which are pending
unfoldable pub moment_of : Sectors → Moment
moment_of s = record {
  reads = λ n. latest_bytes (get nat_cmp s.latest n);
  pending = λ n. is_some (settled_of s n);
}

-- what each sector held at the last sync
unfoldable pub synced_content : Sectors → Content
synced_content s n = unwrap_or (settled_of s n) (latest_bytes (get nat_cmp s.latest n))

-- all of it is as it was
pub record IsAsBefore (old new : Sectors) : Type 0 where
  pub reads : moment_of new ≡ moment_of old
  pub settled : synced_content new ≡ synced_content old

-- a sector was written, and what each held at the last sync is as it was
pub record IsSectorWritten (old new : Sectors) (n : ℕ) (bytes : List ℕ) : Type 0 where
  pub reads : moment_of new ≡ written (moment_of old) n bytes
  pub settled : synced_content new ≡ synced_content old

-- what is kept is what these calls left
pub record IsLeftBy (calls : List DiskCall) (sectors : Sectors) : Type 0 where
  pub moment : ℕ
  pub last_sync : IsLastSync (trail_of calls) moment
  pub reads : moment_of sectors ≡ now (trail_of calls)
  pub settled : synced_content sectors ≡ ((trail_of calls).at moment).reads
