use Rattle.std.proofs.Common.{◌∙◌, arith}
use Rattle.past_pages.proofs.StillReads.{still_looked, still_none}
use Rattle.past_moments.proofs.Walking.{front_read, page_there}
use Rattle.past_moments.proofs.extent.Extent.front_at.Goals as goal

pub returns-in_err-page-clause-still : goal.returns-in_err-page-clause-still
returns-in_err-page-clause-still g c =
    still_looked g.D.Disk c.front_in.result (still_none g.D.Disk c.args.store.now c.requires) c.front_in.ensures.looks

pub returns-in_default-clause-still : goal.returns-in_default-clause-still
returns-in_default-clause-still g c =
    still_looked g.D.Disk c.front_in.result (still_none g.D.Disk c.args.store.now c.requires) c.front_in.ensures.looks

pub returns-in-None-clause-still : goal.returns-in-None-clause-still
returns-in-None-clause-still g c =
    still_looked g.D.Disk c.front_in.result (still_none g.D.Disk c.args.store.now c.requires) c.front_in.ensures.looks

pub returns-in-Some-behind_front-clause-still : goal.returns-in-Some-behind_front-clause-still
returns-in-Some-behind_front-clause-still g c =
    still_looked g.D.Disk c.front_in.result (still_none g.D.Disk c.args.store.now c.requires) c.front_in.ensures.looks

pub returns-in-Some-behind_front-clause-page : goal.returns-in-Some-behind_front-clause-page
returns-in-Some-behind_front-clause-page g c = λ reaches is past lies.
    let d = g.D.Disk in
    let far = reaches past lies in
    let here = is past lies in
    let later = rw c.in-Some.is at c.in_ok-page.ensures.later in
    let place = c.args.place in
    let there = page_there d past place c.args.self.now.end here far.end (omega (arith, later.0, later.1)) in
    let read = (rw c.in-Some.is at c.in_ok-page.ensures.found) past.honest there.0 there.3
    (omega (arith, far.end, past.keeps.remembers.past.room)) in
    let behind = rw c.in-Some-behind_front.is at c.behind_front.ensures in
    front_read d past place c.in-Some-behind_front.next c.in-Some.page.kind here there.0 there.1 there.2 read.0
    (behind.0 ∙ read.1) behind.1
