use Rattle.std.proofs.Common.{◌∙◌, sym, refl, ap}
use Rattle.sector_disk.specs.Trail.{Nowhere}
use Rattle.sector_disk.specs.FileTrail.{current}
use Rattle.sector_disk.specs.FileSectors.{sectors_at}
use Rattle.sector_disk.proofs.FileBytes.{touched_none}
use Rattle.sector_disk.proofs.FileViews.{confined_by_sectors, sectors_synced, when_done, where_ok}
use Rattle.sector_disk.proofs.file.FileDiskDisk.sync.Goals as goal

pub returns-clause-kept : goal.returns-clause-kept
returns-clause-kept g c = confined_by_sectors (λ d. d.file) (λ d. d.sectors) g.F.HostFile.honest g.F.HostFile.trail
    Nowhere Nowhere c.args.self.now _ refl (λ n i out low high none. none)
    (touched_none g.F.HostFile.honest g.F.HostFile.trail c.sync_data.result c.args.self.now.file c.sync_data.new.self
    c.sync_data.ensures.kept c.sync_data.ensures.refused)

pub returns-clause-settled : goal.returns-clause-settled
returns-clause-settled g c = when_done c.counted-2.result c.is_ok-done.result c.args.self.now.failed c.counted-2.new.failed _
    c.counted-2.ensures
    (λ done h.
    ap sectors_at (where_ok c.sync_data.result _ c.sync_data.ensures.settled (sym c.is_ok-done.ensures.value ∙ done) h)
    ∙ sectors_synced (current (g.F.HostFile.trail c.args.self.now.file)))
