use Rattle.std.proofs.Common.{◌∙◌, inl, subst, sym}
use Rattle.sector_disk.specs.declared.disk.Disk.{Ghosts}
use Rattle.desk_past.specs.Errors.{OfDoing}
use Rattle.desk_past.proofs.Former.{looked_shows}
use Rattle.desk_past.proofs.InMemory.{of_look}
use Rattle.desk_past.proofs.again.told_in.Goals as goal

pub returns-in-Ok-clause-told : goal.returns-in-Ok-clause-told
returns-in-Ok-clause-told g c = λ t shown. c.in-Ok.ensures.told shown.honest t shown.shows

pub returns-in-Ok-clause-still : goal.returns-in-Ok-clause-still
returns-in-Ok-clause-still g c = looked_shows g.E.Disk c.past.result c.past.ensures.looks
    c.shows_what_crashes_leave.ensures.quiet

pub returns-in-Err-clause-still : goal.returns-in-Err-clause-still
returns-in-Err-clause-still g c = looked_shows g.E.Disk c.past.result c.past.ensures.looks
    c.shows_what_crashes_leave.ensures.quiet

pub returns-in-Err-clause-errors : goal.returns-in-Err-clause-errors
returns-in-Err-clause-errors g c = subst OfDoing (sym c.in_memory.ensures)
    (inl (of_look c.in-Err.error c.in-Err.ensures.looks.faults.errors))
