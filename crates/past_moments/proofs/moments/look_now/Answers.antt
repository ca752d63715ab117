use Rattle.past_pages.proofs.StillReads.{still_left, still_none}
use Rattle.past_moments.proofs.Carried.{moment_on}
use Rattle.past_moments.proofs.Kept.{present_is}
use Rattle.past_moments.proofs.moments.look_now.Goals as goal

pub returns-in_err-shown-clause-still : goal.returns-in_err-shown-clause-still
returns-in_err-shown-clause-still g c =
    still_left g.D.Disk (still_none g.D.Disk c.args.store.now c.requires) c.copy_of.ensures.left c.copy_of.ensures.usable

pub returns-in_err-words-clause-still : goal.returns-in_err-words-clause-still
returns-in_err-words-clause-still g c =
    still_left g.D.Disk (still_none g.D.Disk c.args.store.now c.requires) c.copy_of.ensures.left c.copy_of.ensures.usable

pub returns-clause-still : goal.returns-clause-still
returns-clause-still g c =
    still_left g.D.Disk (still_none g.D.Disk c.args.store.now c.requires) c.copy_of.ensures.left c.copy_of.ensures.usable

pub returns-clause-shown : goal.returns-clause-shown
returns-clause-shown g c = λ k last.
    let d = g.D.Disk in
    let still = still_left d (still_none d c.args.store.now c.requires) c.copy_of.ensures.left c.copy_of.ensures.usable in
    moment_on d still c.requires (c.shows_what_crashes_leave.ensures.quiet c.requires) k c.in_ok-shown.shown.desktop
    (present_is d c.standing_law.ensures c.present_law.ensures
    (c.shows_what_crashes_leave.ensures.durable c.requires) c.in_ok-shown.shown.desktop c.in_ok-shown.ensures.same k last)
