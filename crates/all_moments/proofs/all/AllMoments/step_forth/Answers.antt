use Rattle.std.proofs.lemmas.Result.{on_ok_weaker}
use Rattle.past_pages.proofs.StillReads.{still_both}
use Rattle.all_moments.proofs.AtHand.{all_now, all_stays}
use Rattle.all_moments.proofs.Backward.{all_on}
use Rattle.all_moments.proofs.all.AllMoments.step_forth.Goals as goal

pub returns-in-None-clause-are : goal.returns-in-None-clause-are
returns-in-None-clause-are g c = on_ok_weaker c.step_forth.result (λ are is.
    let all = c.in_ok-come_to.ensures.are is in
    let usable = c.come_to.ensures.still.usable in
    all_now g.D.Disk c.step_forth.new.store c.come_to.new.self c.step_forth.new.self (are all.known.in_use)
    (all_on g.D.Disk c.step_forth.ensures.still usable (c.shows_what_crashes_leave.ensures.quiet usable) c.come_to.new.self all))
    c.step_forth.ensures.are

pub returns-in-None-clause-still : goal.returns-in-None-clause-still
returns-in-None-clause-still g c = still_both g.D.Disk c.come_to.ensures.still c.step_forth.ensures.still

pub returns-in-Some-clause-are : goal.returns-in-Some-clause-are
returns-in-Some-clause-are g c = on_ok_weaker c.step_forth-in-Some.result (λ stays is.
    all_stays g.D.Disk c.come_to.new.store c.come_to.new.self c.in-Some.part c.step_forth-in-Some.new.self c.in-Some.is stays
    (c.in_ok-come_to.ensures.are is)) c.step_forth-in-Some.ensures.stays
