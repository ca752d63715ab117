use Rattle.std.proofs.Common.{refl}
use Rattle.past_moments.proofs.Kept.{mark_same, marks_near, near_is}
use Rattle.past_moments.proofs.marks.Marks.copy_near.Goals as goal

pub returns-in_err-copied-in-Some-clause-kept : goal.returns-in_err-copied-in-Some-clause-kept
returns-in_err-copied-in-Some-clause-kept g c = λ are. marks_near g.D.Disk c.args.self.now _ c.copied.new.self refl refl
    (mark_same g.D.Disk c.in-Some.near c.copied.new.self c.copied.ensures.place c.copied.ensures.shown
    (near_is g.D.Disk c.args.self.now c.in-Some.near c.in-Some.is are)) are

pub returns-in_ok-copied-in-Some-clause-kept : goal.returns-in_ok-copied-in-Some-clause-kept
returns-in_ok-copied-in-Some-clause-kept g c = λ are. marks_near g.D.Disk c.args.self.now _ c.copied.new.self refl refl
    (mark_same g.D.Disk c.in-Some.near c.copied.new.self c.copied.ensures.place c.copied.ensures.shown
    (near_is g.D.Disk c.args.self.now c.in-Some.near c.in-Some.is are)) are

pub returns-in_ok-copied-in-Some-clause-mark : goal.returns-in_ok-copied-in-Some-clause-mark
returns-in_ok-copied-in-Some-clause-mark g c = λ are.
    mark_same g.D.Disk c.in-Some.near c.in_ok-copied-in-Some.field-0 c.in_ok-copied-in-Some.ensures.same_place
    c.in_ok-copied-in-Some.ensures.same_shown (near_is g.D.Disk c.args.self.now c.in-Some.near c.in-Some.is are)
