use Rattle.past_moments.proofs.Kept.{mark_same}
use Rattle.past_moments.proofs.marks.Marks.leave.Goals as goal

pub returns-clause-kept : goal.returns-clause-kept
returns-clause-kept g c = λ are is. c.in_ok-add.ensures are
    (mark_same g.D.Disk c.args.mark.now c.in_ok-copy.copy c.in_ok-copy.ensures.same_place c.in_ok-copy.ensures.same_shown is)
