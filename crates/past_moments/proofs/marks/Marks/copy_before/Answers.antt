use Rattle.std.proofs.Common.{refl}
use Rattle.past_moments.proofs.Kept.{mark_at, mark_same, marks_set}
use Rattle.past_moments.proofs.marks.Marks.copy_before.Goals as goal

pub returns-in_err-copied-clause-kept : goal.returns-in_err-copied-clause-kept
returns-in_err-copied-clause-kept g c = λ are. marks_set g.D.Disk c.args.self.now _ c.in-Some.best c.copied.new.self refl refl
    (mark_same g.D.Disk c.index_mut-mark.result.now c.copied.new.self c.copied.ensures.place c.copied.ensures.shown
    (mark_at g.D.Disk c.args.self.now c.in-Some.best c.index_mut-mark.result.now c.in-Some.ensures
    c.index_mut-mark.ensures.value are)) are

pub returns-clause-kept : goal.returns-clause-kept
returns-clause-kept g c = λ are. marks_set g.D.Disk c.args.self.now _ c.in-Some.best c.copied.new.self refl refl
    (mark_same g.D.Disk c.index_mut-mark.result.now c.copied.new.self c.copied.ensures.place c.copied.ensures.shown
    (mark_at g.D.Disk c.args.self.now c.in-Some.best c.index_mut-mark.result.now c.in-Some.ensures
    c.index_mut-mark.ensures.value are)) are

pub returns-clause-mark : goal.returns-clause-mark
returns-clause-mark g c = λ are. mark_same g.D.Disk c.index_mut-mark.result.now c.in_ok-copied.field-0
    c.in_ok-copied.ensures.same_place c.in_ok-copied.ensures.same_shown
    (mark_at g.D.Disk c.args.self.now c.in-Some.best c.index_mut-mark.result.now c.in-Some.ensures
    c.index_mut-mark.ensures.value are)
