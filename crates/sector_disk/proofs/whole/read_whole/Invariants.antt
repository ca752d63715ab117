use Rattle.std.proofs.Common.{◌≡◌, ℕ, ◌+◌, ◌<◌, ◌≤◌, true, length, get_or}
use Rattle.sector_disk.specs.Trail.{Nowhere}
use Rattle.sector_disk.specs.FileTrail.{current, IsFileConfined}
use Rattle.sector_disk.proofs.whole.read_whole.Given as goal

abbrev pub invariant-calls : goal.invariant-calls
invariant-calls g l = record {
  few : l.filled ≤ length l.buffer;
  kept : IsFileConfined g.F.HostFile.honest g.F.HostFile.trail Nowhere l.fn.file l.file;
  intact : g.F.HostFile.intact l.file ≡ true;
  bytes : g.F.HostFile.honest l.fn.file → (i : ℕ) → i < l.filled
      → get_or l.buffer i 0 ≡ (current (g.F.HostFile.trail l.fn.file)).reads (l.offset + i);
}
