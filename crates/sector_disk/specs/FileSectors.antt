-- The sectors of a file: sector n is the 1,024 bytes from byte 1,024 n on, and is pending where one of them is.
use Rattle.std.specs.Prelude.{◌+◌, ◌*◌, ◌||◌, ℕ, List, Bool, false, zero, suc, map}
use Rattle.std.specs.List.{range_with_len}
use Rattle.sector_disk.specs.declared.disk.TheConstants.{SECTOR_BYTES}
use Rattle.sector_disk.specs.Trail.{Content, Moment, Trail}
use Rattle.sector_disk.specs.FileTrail.{FileMoment, FileTrail}

-- n bytes from an offset on
unfoldable pub bytes_from : (ℕ → ℕ) → ℕ → ℕ → List ℕ
bytes_from bytes from n = map bytes (range_with_len from n)

-- whether one of n bytes from an offset on is so
unfoldable pub any_in : (ℕ → Bool) → ℕ → ℕ → Bool
any_in is from zero = false
any_in is from (suc n) = is from || any_in is (from + 1) n

-- what the sectors of these bytes hold
abbrev pub sectors_in : (ℕ → ℕ) → Content
sectors_in bytes n = bytes_from bytes (SECTOR_BYTES * n) SECTOR_BYTES

abbrev pub sectors_at : FileMoment → Moment
sectors_at m = record {
  reads = sectors_in m.reads;
  pending = λ n. any_in m.pending (SECTOR_BYTES * n) SECTOR_BYTES;
}

abbrev pub sectors_of : FileTrail → Trail
sectors_of f = record { clock = f.clock; at = λ t. sectors_at (f.at t) }
