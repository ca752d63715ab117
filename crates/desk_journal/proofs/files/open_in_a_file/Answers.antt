use Rattle.std.proofs.Common.{subst, sym}
use Rattle.std.proofs.lemmas.Result.{IfOk-weaker, IfErr-weaker}
use Rattle.sector_disk.specs.declared.file.TheConstants.{FILE_SECTORS}
use Rattle.sector_disk.specs.Trail.{now}
use Rattle.sector_disk.specs.FileSectors.{sectors_of}
use Rattle.store_layout.specs.Meaning.{Means}
use Rattle.desk_journal.proofs.Opened.{opened_as_meant, stops_as_meant}
use Rattle.desk_journal.proofs.files.open_in_a_file.Goals as goal

pub returns-clause-shows : goal.returns-clause-shows
returns-clause-shows g c = IfOk-weaker c.open.result _ _ (λ store opened honest desktop means.
    opened_as_meant _ c.new.result (c.finding_law.ensures c.new.result.sectors (now (sectors_of (g.F.HostFile.trail c.new.result.file))).reads)
    store opened (c.new.ensures.honest.1 honest) desktop
    (subst (λ n. Means n desktop (now (sectors_of (g.F.HostFile.trail c.new.result.file))).reads) (sym c.new.ensures.size)
    (subst (λ t. Means FILE_SECTORS desktop (now t).reads) (sym c.new.ensures.trail) means))) c.open.ensures.ok

pub returns-clause-stops : goal.returns-clause-stops
returns-clause-stops g c = IfErr-weaker c.open.result _ _ (λ e stops honest desktop means.
    stops (c.new.ensures.honest.1 honest) desktop
    (subst (λ n. Means n desktop (now (sectors_of (g.F.HostFile.trail c.new.result.file))).reads) (sym c.new.ensures.size)
    (subst (λ t. Means FILE_SECTORS desktop (now t).reads) (sym c.new.ensures.trail) means)))
    (stops_as_meant _ c.new.result (c.finding_law.ensures c.new.result.sectors (now (sectors_of (g.F.HostFile.trail c.new.result.file))).reads)
    c.open.result c.open.ensures.no_store c.open.ensures.faults.errors)
