use Rattle.past_pages.proofs.StillReads.{still_both}
use Rattle.past_moments.proofs.Carried.{moments_on}
use Rattle.past_moments.proofs.moments.Moments.step_back.Goals as goal

pub returns-in_err-start-clause-still : goal.returns-in_err-start-clause-still
returns-in_err-start-clause-still g c = still_both g.D.Disk c.at.ensures.still c.start_at.ensures.still

pub returns-clause-are : goal.returns-clause-are
returns-clause-are g c = λ are. moments_on g.D.Disk c.start_at.ensures.still c.at.ensures.still.usable
    (c.shows_what_crashes_leave.ensures.quiet c.at.ensures.still.usable) c.at.new.self (c.in_ok-mark.ensures.are are)

pub returns-clause-still : goal.returns-clause-still
returns-clause-still g c = still_both g.D.Disk c.at.ensures.still c.start_at.ensures.still
