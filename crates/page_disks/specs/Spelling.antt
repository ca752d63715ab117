-- The calls of a disk, spelled for a host that repeats them.
use Rattle.std.specs.Prelude.{List, [], ◌∷◌, ◌++◌, ℕ}
use Rattle.std.specs.Int.{w32, to_le_bytes}
use Rattle.sector_disk.specs.declared.call.DiskCall.{DiskCall}
use Rattle.sector_disk.specs.declared.call.DiskCall.TheVariants.{Write, Sync}
use Rattle.page_disks.specs.declared.disk.TheConstants.{SYNC_NUMBER}

-- a write is the four bytes of its sector's number, the lowest first, and the sector's bytes; a sync is a number alone
abbrev pub spelled : DiskCall → List ℕ
spelled (Write n bytes) = to_le_bytes w32 n ++ bytes
spelled Sync = to_le_bytes w32 SYNC_NUMBER ++ []

-- calls, one after another
unfoldable pub spelling_of_calls : List DiskCall → List ℕ
spelling_of_calls [] = []
spelling_of_calls (call ∷ calls) = spelled call ++ spelling_of_calls calls
