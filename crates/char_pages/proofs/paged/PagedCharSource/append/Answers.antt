use Rattle.std.proofs.Common.{sym, ◌∙◌, arith}
use Rattle.std.proofs.lemmas.Result.{IfOk-weaker}
use Rattle.sector_disk.specs.Trail.{now}
use Rattle.char_pages.proofs.Paging.{length-paged}
use Rattle.char_pages.proofs.paged.PagedCharSource.append.Goals as goal

pub append-requires : goal.append-requires
append-requires g c =
    let p = c.args.self.now.pages.now in
    let reads = (now (g.D.Disk.trail c.args.self.now.disk.now)).reads in
    omega (arith, c.requires, length-paged reads p.base p.saved p.rest.items)

pub returns-clause-offset : goal.returns-clause-offset
returns-clause-offset g c = IfOk-weaker c.append.result _ _ (λ offset is. is ∙ sym (length-paged _ _ _ _))
    c.append.ensures.offset
