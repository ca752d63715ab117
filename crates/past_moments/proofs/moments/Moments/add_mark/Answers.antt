use Rattle.past_moments.proofs.Carried.{extent_on, marks_on, moment_on, moments_on, place_on}
use Rattle.past_moments.proofs.moments.Moments.add_mark.Goals as goal

pub returns-in-None-clause-are : goal.returns-in-None-clause-are
returns-in-None-clause-are g c = λ are is. moments_on g.D.Disk c.moment_of.ensures.still c.requires
    (c.shows_what_crashes_leave.ensures.quiet c.requires) c.args.self.now are

pub returns-in_ok-add-in-Some-clause-are : goal.returns-in_ok-add-in-Some-clause-are
returns-in_ok-add-in-Some-clause-are g c = λ are is.
    let d = g.D.Disk in
    let quiet = c.shows_what_crashes_leave.ensures.quiet c.requires in
    let still = c.moment_of.ensures.still in
    let was = (rw c.in-Some.is at c.in_ok-moment_of.ensures.is) are.extent in
    record {
      extent = extent_on d still c.requires quiet c.args.self.now.extent are.extent;
      marks = c.in_ok-add-in-Some.ensures (marks_on d still c.requires quiet c.args.self.now.marks are.marks) (record {
        place = place_on d still c.requires quiet c.args.place is;
        shown = moment_on d still c.requires quiet c.args.place.k c.in-Some.shown.desktop was;
      });
    }
