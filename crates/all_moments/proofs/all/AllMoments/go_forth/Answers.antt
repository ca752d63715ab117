use Rattle.std.proofs.Common.{length, subst, sym}
use Rattle.past_moments.proofs.Carried.{moments_on}
use Rattle.past_moments.specs.Moments.{AreMomentsOf}
use Rattle.all_moments.proofs.Backward.{front_on, known_on}
use Rattle.all_moments.proofs.all.AllMoments.go_forth.Goals as goal

pub returns-in-Err-clause-are : goal.returns-in-Err-clause-are
returns-in-Err-clause-are g c = λ is. c.come_back-in-Err.ensures.are
    (subst (λ m. AreMomentsOf g.D.Disk m c.part_before.new.store) (sym c.leave.ensures.in_use)
    (moments_on g.D.Disk c.part_before.ensures.still c.requires (c.shows_what_crashes_leave.ensures.quiet c.requires)
    c.args.self.now.in_use is.known.in_use))

pub returns-in_ok-hold-in-Ok-clause-are : goal.returns-in_ok-hold-in-Ok-clause-are
returns-in_ok-hold-in-Ok-clause-are g c = λ is.
    let quiet = c.shows_what_crashes_leave.ensures.quiet c.requires in
    let left = c.in-Some.ensures.known is.known in
    c.in_ok-hold-in-Ok.ensures (known_on g.D.Disk c.part_before.ensures.still c.requires quiet c.leave.new.self left.0)
    (front_on g.D.Disk c.part_before.ensures.still c.requires quiet (length c.leave.new.self.fronts.items) _ left.1)
    ((rw c.in-Ok.is at c.in_ok-_edge.ensures.part) (length c.leave.new.self.fronts.items) left.1)
