use Rattle.std.proofs.Common.{subst, sym}
use Rattle.sector_disk.specs.Trail.{now}
use Rattle.desk_past.specs.Errors.{OfDoing, OfFound}
use Rattle.desk_past.proofs.InMemory.{of_open, of_standing}
use Rattle.desk_past.proofs.again.opened.Goals as goal

pub returns-in-Err-clause-errors : goal.returns-in-Err-clause-errors
returns-in-Err-clause-errors g c = subst OfFound (sym c.in_memory.ensures)
    (of_open c.in-Err.error c.in-Err.ensures.errors)

pub returns-in-Err-clause-stops : goal.returns-in-Err-clause-stops
returns-in-Err-clause-stops g c = λ honest t at. subst OfDoing (sym c.in_memory.ensures)
    (of_standing (g.E.Disk.size c.args.disk) (now (g.E.Disk.trail c.args.disk)).reads t c.finding_law.ensures at
    c.in-Err.error c.in-Err.ensures.errors (λ is. c.in-Err.ensures.no_store.foreign is honest)
    (λ n is. c.in-Err.ensures.no_store.damaged n is honest))
