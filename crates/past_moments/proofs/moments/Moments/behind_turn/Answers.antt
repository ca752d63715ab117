use Rattle.past_moments.proofs.Carried.{mark_on}
use Rattle.past_moments.proofs.Ways.{moment_turn}
use Rattle.past_moments.proofs.moments.Moments.behind_turn.Goals as goal

pub returns-in-Some-clause-mark : goal.returns-in-Some-clause-mark
returns-in-Some-clause-mark g c = λ are is same.
    let d = g.D.Disk in
    let was = (rw c.in-Some.is at c.in_ok-moment_of.ensures.is) are.extent in
    mark_on d c.moment_of.ensures.still c.requires (c.shows_what_crashes_leave.ensures.quiet c.requires)
    (record { place = c.args.place; shown = c.in-Some.shown }) (record {
      place = is;
      shown = moment_turn d c.args.place c.args.from c.in-Some.shown.desktop is same was;
    })
