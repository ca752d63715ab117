use Rattle.std.proofs.Common.{arith}
use Rattle.std.proofs.lemmas.Result.{on_ok_weaker}
use Rattle.past_pages.proofs.StillReads.{still_both}
use Rattle.past_moments.proofs.Kept.{found_then}
use Rattle.past_moments.proofs.moments.Moments.look_led.Goals as goal

pub look_on-requires-clause-low : goal.look_on-requires-clause-low
look_on-requires-clause-low g c =
    let low = rw c.in-Some.is at c.in_ok-mark.ensures.low in
    let first = c.if-k-eq0.false in omega (arith, low, first)

pub returns-clause-shown : goal.returns-clause-shown
returns-clause-shown g c = found_then c.look_on.result (λ look fact. λ are.
    fact (c.in_ok-mark.ensures.are are) ((rw c.in-Some.is at c.in_ok-mark.ensures.place) are)
    ((rw c.in-Some.is at c.in_ok-mark.ensures.shown) are)) c.look_on.ensures.shown

pub returns-clause-words : goal.returns-clause-words
returns-clause-words g c = found_then c.look_on.result (λ look fact. λ are.
    fact (c.in_ok-mark.ensures.are are) ((rw c.in-Some.is at c.in_ok-mark.ensures.place) are)
    ((rw c.in-Some.is at c.in_ok-mark.ensures.shown) are)) c.look_on.ensures.words

pub returns-clause-are : goal.returns-clause-are
returns-clause-are g c = on_ok_weaker c.look_on.result (λ fact are. fact (c.in_ok-mark.ensures.are are)) c.look_on.ensures.are

pub returns-clause-still : goal.returns-clause-still
returns-clause-still g c = still_both g.D.Disk c.at.ensures.still c.look_on.ensures.still
