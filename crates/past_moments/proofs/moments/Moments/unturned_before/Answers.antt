use Rattle.past_pages.proofs.StillReads.{still_both}
use Rattle.past_moments.proofs.Carried.{extent_on, goes_on, marks_on, moments_on, place_on, same_on}
use Rattle.past_moments.specs.declared.legs.Source.TheVariants.{Copy}
use Rattle.past_moments.proofs.Kept.{found_then}
use Rattle.past_moments.proofs.moments.Moments.unturned_before.Goals as goal

pub returns-in_err-leg-clause-are : goal.returns-in_err-leg-clause-are
returns-in_err-leg-clause-are g c = λ are. moments_on g.D.Disk c.last_leg.ensures.still c.requires
    (c.shows_what_crashes_leave.ensures.quiet c.requires) c.args.self.now are

pub returns-in_default-2-clause-are : goal.returns-in_default-2-clause-are
returns-in_default-2-clause-are g c = λ are. moments_on g.D.Disk c.last_leg.ensures.still c.requires
    (c.shows_what_crashes_leave.ensures.quiet c.requires) c.args.self.now are

pub returns-in-Kept-clause-mark : goal.returns-in-Kept-clause-mark
returns-in-Kept-clause-mark g c = found_then c.copy_before.result (λ mark fact. λ are.
    fact (marks_on g.D.Disk c.last_leg.ensures.still c.requires (c.shows_what_crashes_leave.ensures.quiet c.requires)
    c.args.self.now.marks are.marks)) c.copy_before.ensures.mark

pub returns-in-Kept-clause-are : goal.returns-in-Kept-clause-are
returns-in-Kept-clause-are g c = λ are.
    let d = g.D.Disk in
    let quiet = c.shows_what_crashes_leave.ensures.quiet c.requires in
    let still = c.last_leg.ensures.still in
    record {
      extent = extent_on d still c.requires quiet c.args.self.now.extent are.extent;
      marks = c.copy_before.ensures.kept (marks_on d still c.requires quiet c.args.self.now.marks are.marks);
    }

pub returns-in-Moment-clause-mark : goal.returns-in-Moment-clause-mark
returns-in-Moment-clause-mark g c = found_then c.behind_turn.result (λ mark fact. λ are.
    let d = g.D.Disk in
    let quiet = c.shows_what_crashes_leave.ensures.quiet c.requires in
    let still = c.last_leg.ensures.still in
    let leg = c.in-Some-2.leg in
    let place = (rw c.in-Some.is at c.place_before.ensures) are.marks in
    let at = (rw c.in-Some-2.is at c.in_ok-leg.ensures.place) are.extent place in
    let goes = (rw (c.in-Some-2.is, c.in-Moment.is) at c.in_ok-leg.ensures.from) are.extent place in
    fact (moments_on d still c.requires quiet c.args.self.now are) (place_on d still c.requires quiet leg.place at)
    (same_on d still c.requires quiet leg.place.k c.in-Moment.from goes)) c.behind_turn.ensures.mark

pub returns-in-Moment-clause-are : goal.returns-in-Moment-clause-are
returns-in-Moment-clause-are g c = λ are. moments_on g.D.Disk
    (still_both g.D.Disk c.last_leg.ensures.still c.behind_turn.ensures.still) c.requires
    (c.shows_what_crashes_leave.ensures.quiet c.requires) c.args.self.now are

pub returns-in-Moment-clause-still : goal.returns-in-Moment-clause-still
returns-in-Moment-clause-still g c = still_both g.D.Disk c.last_leg.ensures.still c.behind_turn.ensures.still

pub returns-in-Copy-clause-mark : goal.returns-in-Copy-clause-mark
returns-in-Copy-clause-mark g c = found_then c.behind_copy.result (λ mark fact. λ are.
    let d = g.D.Disk in
    let quiet = c.shows_what_crashes_leave.ensures.quiet c.requires in
    let still = c.last_leg.ensures.still in
    let leg = c.in-Some-2.leg in
    let place = (rw c.in-Some.is at c.place_before.ensures) are.marks in
    let at = (rw c.in-Some-2.is at c.in_ok-leg.ensures.place) are.extent place in
    let goes = (rw (c.in-Some-2.is, c.in-Copy.is) at c.in_ok-leg.ensures.from) are.extent place in
    fact (moments_on d still c.requires quiet c.args.self.now are) (place_on d still c.requires quiet leg.place at)
    (goes_on d still c.requires quiet leg.place (Copy c.in-Copy.at) goes)) c.behind_copy.ensures.mark

pub returns-in-Copy-clause-are : goal.returns-in-Copy-clause-are
returns-in-Copy-clause-are g c = λ are. moments_on g.D.Disk
    (still_both g.D.Disk c.last_leg.ensures.still c.behind_copy.ensures.still) c.requires
    (c.shows_what_crashes_leave.ensures.quiet c.requires) c.args.self.now are

pub returns-in-Copy-clause-still : goal.returns-in-Copy-clause-still
returns-in-Copy-clause-still g c = still_both g.D.Disk c.last_leg.ensures.still c.behind_copy.ensures.still
