use Rattle.std.proofs.Common.{subst, sym}
use Rattle.desk_past.specs.Errors.{OfDoing}
use Rattle.desk_past.proofs.InMemory.{of_post}
use Rattle.desk_past.proofs.again.brought.Goals as goal

pub returns-in-Err-clause-errors : goal.returns-in-Err-clause-errors
returns-in-Err-clause-errors g c = subst OfDoing (sym c.in_memory.ensures)
    (of_post c.in-Err.error c.in-Err.ensures.behaves.faults.errors)
