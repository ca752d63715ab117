use Rattle.std.proofs.Common.{◌≡◌, length, take}
use Rattle.sector_disk.specs.FileTrail.{current, Span, overwritten, IsFileConfined}
use Rattle.sector_disk.specs.MemoryFile.{file_trail_of}
use Rattle.sector_disk.proofs.memory_file.MemoryFileHostFile.write_at.Given as goal

abbrev pub invariant-loop-i : goal.invariant-loop-i
invariant-loop-i l = record {
  kept : IsFileConfined (λ _. Unit {0}) file_trail_of (Span l.offset (length l.bytes)) l.fn.self l.self;
  written : current (file_trail_of l.self)
      ≡ overwritten (current (file_trail_of l.fn.self)) l.offset (take l.i l.bytes);
}
