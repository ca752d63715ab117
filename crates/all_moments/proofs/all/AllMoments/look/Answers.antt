use Rattle.past_pages.proofs.StillReads.{still_both}
use Rattle.all_moments.proofs.AtHand.{found_then}
use Rattle.all_moments.proofs.all.AllMoments.look.Goals as goal

pub returns-clause-shown : goal.returns-clause-shown
returns-clause-shown g c = found_then c.look_at_hand.result (λ look fact is. fact (c.in_ok-come_to.ensures.are is))
    c.look_at_hand.ensures.shown

pub returns-clause-words : goal.returns-clause-words
returns-clause-words g c = found_then c.look_at_hand.result (λ look fact is. fact (c.in_ok-come_to.ensures.are is))
    c.look_at_hand.ensures.words

pub returns-clause-still : goal.returns-clause-still
returns-clause-still g c = still_both g.D.Disk c.come_to.ensures.still c.look_at_hand.ensures.still
