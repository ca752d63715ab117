use Rattle.std.proofs.Common.{◌≡◌, ◌<◌, ℕ}
use Rattle.sector_disk.specs.Memory.{zeros}
use Rattle.sector_disk.specs.FileTrail.{current}
use Rattle.sector_disk.specs.FileSectors.{sectors_at}
use Rattle.sector_disk.proofs.file.FileDisk.zeroed.Given as goal

abbrev pub invariant-loop-n : goal.invariant-loop-n
invariant-loop-n g l = record {
  sectors : l.self.sectors ≡ l.fn.self.sectors;
  failed : l.self.failed ≡ l.fn.self.failed;
  honest : g.F.HostFile.honest l.fn.self.file → g.F.HostFile.honest l.self.file;
  zeros : g.F.HostFile.honest l.fn.self.file → (k : ℕ) → k < l.n
      → (sectors_at (current (g.F.HostFile.trail l.self.file))).reads k ≡ zeros;
}
