use Rattle.std.proofs.Common.{length}
use Rattle.all_moments.proofs.Backward.{all_on, front_on, known_on}
use Rattle.all_moments.proofs.all.AllMoments.go_back.Goals as goal

pub returns-in-Err-clause-are : goal.returns-in-Err-clause-are
returns-in-Err-clause-are g c = λ is.
    let on = all_on g.D.Disk c.part_before.ensures.still c.requires (c.shows_what_crashes_leave.ensures.quiet c.requires)
    c.args.self.now is in record {
      known = record { in_use = on.known.in_use; fronts = on.known.fronts };
      hand = on.hand;
      edge = (rw c.in-Err.is at c.in_ok-edge.ensures.edge) (length c.args.self.now.fronts.items) (c.front-front.ensures.is is);
    }

pub returns-in_ok-hold-in-Ok-clause-are : goal.returns-in_ok-hold-in-Ok-clause-are
returns-in_ok-hold-in-Ok-clause-are g c = λ is.
    let quiet = c.shows_what_crashes_leave.ensures.quiet c.requires in
    let front = c.front-front.ensures.is is in
    c.in_ok-hold-in-Ok.ensures (known_on g.D.Disk c.part_before.ensures.still c.requires quiet c.args.self.now is.known)
    (front_on g.D.Disk c.part_before.ensures.still c.requires quiet (length c.args.self.now.fronts.items) _ front)
    ((rw c.in-Ok.is at c.in_ok-edge.ensures.part) (length c.args.self.now.fronts.items) front)
