use Rattle.std.proofs.Common.{◌∙◌, refl, length, ap}
use Rattle.sector_disk.specs.Trail.{Only}
use Rattle.sector_disk.specs.FileTrail.{current, Span, overwritten}
use Rattle.sector_disk.specs.FileSectors.{sectors_at}
use Rattle.sector_disk.proofs.FileViews.{confined_by_sectors, span_apart, sector_written, when_done}
use Rattle.sector_disk.proofs.file.FileDiskDisk.write.Goals as goal

pub returns-clause-kept : goal.returns-clause-kept
returns-clause-kept g c = confined_by_sectors (λ d. d.file) (λ d. d.sectors) g.F.HostFile.honest g.F.HostFile.trail
    (Span c.offset_of.result (length c.args.bytes.now)) (Only c.args.n) c.args.self.now _ refl
    (span_apart c.args.n c.offset_of.result (length c.args.bytes.now) c.offset_of.ensures c.told-bytes)
    c.write_whole-done.ensures.kept

pub returns-clause-written : goal.returns-clause-written
returns-clause-written g c = when_done c.counted-2.result c.write_whole-done.result c.args.self.now.failed c.counted-2.new.failed _
    c.counted-2.ensures
    (λ done h.
    let m = current (g.F.HostFile.trail c.args.self.now.file) in
    ap sectors_at (c.write_whole-done.ensures.written done h)
    ∙ ap (λ from. sectors_at (overwritten m from c.args.bytes.now)) c.offset_of.ensures
    ∙ sector_written m c.args.n c.args.bytes.now c.told-bytes)
