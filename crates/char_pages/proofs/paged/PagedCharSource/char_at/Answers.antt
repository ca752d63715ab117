use Rattle.std.proofs.Common.{refl, arith}
use Rattle.sector_disk.specs.Trail.{now}
use Rattle.char_pages.proofs.Paging.{length-paged, only_read}
use Rattle.char_pages.proofs.paged.PagedCharSource.char_at.Goals as goal

pub char_over-requires-clause-within : goal.char_over-requires-clause-within
char_over-requires-clause-within g c =
    let p = c.args.self.now.pages.now in
    let reads = (now (g.D.Disk.trail c.args.self.now.disk.now)).reads in
    omega (arith, c.requires, length-paged reads p.base p.saved p.rest.items)

pub returns-clause-reads : goal.returns-clause-reads
returns-clause-reads g c = only_read (λ s. s.disk.now) (λ s. s.pages.now) (λ s. s.disk.ghost_name)
    (λ s. s.pages.ghost_name) refl refl c.char_over.ensures.reads
