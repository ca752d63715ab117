-- A file in memory, seen as the bytes that were written to it and its syncs, in order. Its trail is their replay, one
-- moment for each.
use Rattle.std.specs.Prelude.{List, [], ◌∷◌, length, take, false}
use Rattle.sector_disk.specs.declared.file_call.FileCall.{FileCall}
use Rattle.sector_disk.specs.declared.file_call.FileCall.TheVariants.{Byte, Sync}
use Rattle.sector_disk.specs.FileTrail.{FileMoment, FileTrail, overwritten, file_synced}

-- before the first call the file has no bytes
abbrev pub empty_file : FileMoment
empty_file = record { reads = λ _. 0; pending = λ _. false }

abbrev pub file_after : FileCall → FileMoment → FileMoment
file_after (Byte at value) m = overwritten m at (value ∷ [])
file_after Sync m = file_synced m

abbrev pub file_replayed : List FileCall → FileMoment → FileMoment
file_replayed [] m = m
file_replayed (call ∷ calls) m = file_replayed calls (file_after call m)

-- moment t is the one after the first t of them
abbrev pub file_trail_of : List FileCall → FileTrail
file_trail_of calls = record {
  clock = length calls;
  at = λ t. file_replayed (take t calls) empty_file;
}
