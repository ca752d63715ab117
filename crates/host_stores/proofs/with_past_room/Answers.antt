use Rattle.std.proofs.lemmas.Result.{IfOk-weaker, IfErr-weaker}
use Rattle.std.proofs.Common.{subst}
use Rattle.past_pages.specs.declared.parts.TheConstants.{PAST_SECTORS}
use Rattle.sector_disk.specs.FileSectors.{sectors_of}
use Rattle.sector_disk.specs.Trail.{now}
use Rattle.store_layout.specs.Finding.{IsForeign, IsDamagedAt}
use Rattle.store_layout.specs.Meaning.{Shows}
use Rattle.host_stores.proofs.with_past_room.Goals as goal

pub returns-clause-ok : goal.returns-clause-ok
returns-clause-ok g c = IfOk-weaker c.opened.result _ _ (λ store found honest.
    subst (λ t. Shows PAST_SECTORS store.layout store.epoch store.events store.desktop (now t).reads)
    c.with_sectors.ensures.trail
    (subst (λ n. Shows n store.layout store.epoch store.events store.desktop
    (now (sectors_of (g.F.HostFile.trail c.with_sectors.result.file))).reads) c.with_sectors.ensures.size
    (found.found (c.with_sectors.ensures.honest.1 honest)))) c.opened.ensures.ok

pub returns-clause-no_store : goal.returns-clause-no_store
returns-clause-no_store g c = IfErr-weaker c.opened.result _ _ (λ error none. record {
  foreign = λ is honest. subst (λ t. IsForeign PAST_SECTORS (now t).reads) c.with_sectors.ensures.trail
      (subst (λ n. IsForeign n (now (sectors_of (g.F.HostFile.trail c.with_sectors.result.file))).reads) c.with_sectors.ensures.size
      (none.foreign is (c.with_sectors.ensures.honest.1 honest)));
  damaged = λ n is honest. subst (λ t. IsDamagedAt PAST_SECTORS (now t).reads n) c.with_sectors.ensures.trail
      (subst (λ k. IsDamagedAt k (now (sectors_of (g.F.HostFile.trail c.with_sectors.result.file))).reads n) c.with_sectors.ensures.size
      (none.damaged n is (c.with_sectors.ensures.honest.1 honest)));
}) c.opened.ensures.no_store
