use Rattle.std.proofs.Common.{refl}
use Rattle.sector_disk.specs.Trail.{Nowhere}
use Rattle.sector_disk.proofs.FileViews.{confined_by_sectors}
use Rattle.sector_disk.proofs.file.FileDiskDisk.read.Goals as goal

pub returns-clause-kept : goal.returns-clause-kept
returns-clause-kept g c = confined_by_sectors (λ d. d.file) (λ d. d.sectors) g.F.HostFile.honest g.F.HostFile.trail
    Nowhere Nowhere c.args.self.now _ refl (λ n i out low high none. none) c.read_whole-done.ensures.kept
