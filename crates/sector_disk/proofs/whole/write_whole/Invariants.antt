use Rattle.std.proofs.Common.{◌≡◌, ◌≤◌, true, length, take}
use Rattle.sector_disk.specs.FileTrail.{current, Span, overwritten, IsFileConfined}
use Rattle.sector_disk.proofs.whole.write_whole.Given as goal

abbrev pub invariant-calls : goal.invariant-calls
invariant-calls g l = record {
  few : l.taken ≤ length l.bytes;
  kept : IsFileConfined g.F.HostFile.honest g.F.HostFile.trail (Span l.offset (length l.bytes)) l.fn.file l.file;
  intact : g.F.HostFile.intact l.file ≡ true;
  written : g.F.HostFile.honest l.fn.file → current (g.F.HostFile.trail l.file)
      ≡ overwritten (current (g.F.HostFile.trail l.fn.file)) l.offset (take l.taken l.bytes);
}
