use Rattle.past_pages.proofs.StillReads.{still_both}
use Rattle.past_moments.proofs.Carried.{extent_on}
use Rattle.past_moments.proofs.Ways.{first_place}
use Rattle.past_moments.proofs.moments.Moments.of.Goals as goal

pub returns-in-Ok-true-clause-are : goal.returns-in-Ok-true-clause-are
returns-in-Ok-true-clause-are g c =
    let d = g.D.Disk in
    let quiet = c.shows_what_crashes_leave.ensures.quiet c.requires in
    let extent = extent_on d c.extent_of.ensures.still c.requires quiet c.in-Some.extent
    (rw c.in-Some.is at c.in_ok-extent.ensures.is) in
    let start = rw c.in-Some-start.is at c.start.ensures in
    (rw c.in-Ok-true.is at c.add_mark.ensures.are) (record { extent = extent; marks = c.new-marks.ensures })
    (first_place d c.in-Some.extent c.in-Some-start.start start.0 start.1 extent)

pub returns-in-Ok-true-clause-still : goal.returns-in-Ok-true-clause-still
returns-in-Ok-true-clause-still g c = still_both g.D.Disk c.extent_of.ensures.still c.add_mark.ensures.still

pub returns-in-Ok-false-clause-still : goal.returns-in-Ok-false-clause-still
returns-in-Ok-false-clause-still g c = still_both g.D.Disk c.extent_of.ensures.still c.add_mark.ensures.still

pub returns-in-Err-clause-still : goal.returns-in-Err-clause-still
returns-in-Err-clause-still g c = still_both g.D.Disk c.extent_of.ensures.still c.add_mark.ensures.still
