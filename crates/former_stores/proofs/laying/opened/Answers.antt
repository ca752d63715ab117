use Rattle.sector_disk.specs.Trail.{now}
use Rattle.former_stores.proofs.Laid.{stands_found}
use Rattle.former_stores.proofs.laying.opened.Goals as goal

pub returns-then-is_no_store-clause-none : goal.returns-then-is_no_store-clause-none
returns-then-is_no_store-clause-none g c = λ honest t at.
    stands_found (g.E.Disk.size c.args.disk) (now (g.E.Disk.trail c.args.disk)).reads t c.in-Err.error c.finding_law.ensures at
    c.in-Err.ensures.errors (λ is. c.in-Err.ensures.no_store.foreign is honest)
    (λ n is. c.in-Err.ensures.no_store.damaged n is honest) (c.is_no_store.ensures c.if-is_no_store.true)
