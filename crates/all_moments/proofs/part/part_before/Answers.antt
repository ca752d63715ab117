use Rattle.std.proofs.Common.{suc}
use Rattle.all_moments.specs.declared.part.Edge.TheVariants.{Absent}
use Rattle.all_moments.proofs.Backward.{edge_absent, edge_on, former_on, part_found}
use Rattle.all_moments.proofs.part.part_before.Goals as goal

-- ---- none stands

pub returns-in_default-clause-edge : goal.returns-in_default-clause-edge
returns-in_default-clause-edge g c = λ n is.
    edge_on g.D.Disk c.in_ok-former.ensures.still c.requires (c.shows_what_crashes_leave.ensures.quiet c.requires) Absent n
    (edge_absent g.D.Disk n c.args.behind is Absent (rw c.in_default.is at c.in_ok-former.ensures.found))

-- ---- one does

pub returns-in-Some-2-clause-part : goal.returns-in-Some-2-clause-part
returns-in-Some-2-clause-part g c = λ n is.
    former_on g.D.Disk c.in_ok-former.ensures.still c.requires (c.shows_what_crashes_leave.ensures.quiet c.requires) (suc n)
    c.in-Some-2.part (part_found g.D.Disk n c.args.behind is c.in-Some-2.part c.in-Some.former
    (rw c.in-Some-2.is at c.in_ok-of.ensures.is)
    (λ honest. ((rw c.in-Some.is at c.in_ok-former.ensures.found) honest).has)
    (rw c.in-Some.is at c.in_ok-former.ensures.former))
