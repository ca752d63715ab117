use Rattle.std.proofs.Common.{Ok, ap, ◌∙◌}
use Rattle.sector_disk.proofs.Keeping.{written_after, still_before, in_any_case}
use Rattle.sector_disk.proofs.sectors.Sectors.write.Goals as goal

pub returns-then-branch-clause-written : goal.returns-then-branch-clause-written
returns-then-branch-clause-written c = c.in_ok-put.ensures.written (ap (λ b. Ok b) c.if-branch.true)

pub returns-in_err-put-2-clause-refused : goal.returns-in_err-put-2-clause-refused
returns-in_err-put-2-clause-refused c = in_any_case _ _
    (still_before (c.in_ok-put.ensures.absent (ap (λ b. Ok b) c.if-branch.false))
    (still_before c.make_room.ensures.same c.in_err-put-2.ensures.refused))

pub returns-clause-written : goal.returns-clause-written
returns-clause-written c =
    let put = c.in_ok-put-2.ensures in
    let is = ap (λ b. Ok b) (put.room ∙ c.in_ok-make_room.ensures.room) in
    written_after
    (still_before (c.in_ok-put.ensures.absent (ap (λ b. Ok b) c.if-branch.false)) c.make_room.ensures.same)
    (put.written is)
