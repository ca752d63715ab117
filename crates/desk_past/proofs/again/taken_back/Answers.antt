use Rattle.std.proofs.Common.{inl, subst, sym}
use Rattle.desk_past.specs.Errors.{OfDoing, OfFound}
use Rattle.desk_past.proofs.InMemory.{of_look, of_undo}
use Rattle.desk_past.proofs.again.taken_back.Goals as goal

pub returns-in-Err-clause-errors : goal.returns-in-Err-clause-errors
returns-in-Err-clause-errors g c = subst OfFound (sym c.in_memory.ensures)
    (of_undo c.in-Err.error c.in-Err.ensures.behaves.faults.errors)

pub returns-in-Err-clause-stops : goal.returns-in-Err-clause-stops
returns-in-Err-clause-stops g c = λ honest. subst OfDoing (sym c.in_memory.ensures)
    (inl (of_look c.in-Err.error (c.in-Err.ensures.stops honest)))
