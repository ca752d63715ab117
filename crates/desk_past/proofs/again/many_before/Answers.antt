use Rattle.std.proofs.Common.{◌∙◌, inl, subst, sym}
use Rattle.past_pages.proofs.StillReads.{still_shows}
use Rattle.desk_past.specs.Errors.{OfDoing}
use Rattle.desk_past.proofs.InMemory.{of_look}
use Rattle.desk_past.proofs.again.many_before.Goals as goal

pub returns-in-Err-clause-errors : goal.returns-in-Err-clause-errors
returns-in-Err-clause-errors g c = subst OfDoing (sym c.in_memory.ensures)
    (inl (of_look c.in-Err.error c.in-Err.ensures.faults.errors))

pub returns-in-Ok-clause-shows : goal.returns-in-Ok-clause-shows
returns-in-Ok-clause-shows g c = λ t shown.
    let still = c.in-Ok.ensures.still in
    record {
      usable = still.usable;
      honest = still.left.disk.device.still shown.honest;
      shows = still_shows g.E.Disk still (c.shows_what_crashes_leave.ensures.quiet shown.usable shown.honest)
          shown.honest t
          shown.shows;
      desktop = still.left.desktop shown.honest ∙ shown.desktop;
    }
