use Rattle.std.proofs.Common.{refl}
use Rattle.past_moments.proofs.Kept.{mark_same, marks_near}
use Rattle.past_moments.proofs.marks.Marks.keep_near.Goals as goal

pub returns-clause-kept : goal.returns-clause-kept
returns-clause-kept g c = λ are is. marks_near g.D.Disk c.args.self.now _ c.in_ok-copied.field-0 refl refl
    (mark_same g.D.Disk c.args.mark.now c.in_ok-copied.field-0 c.in_ok-copied.ensures.same_place
    c.in_ok-copied.ensures.same_shown is) are
