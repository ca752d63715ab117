use Rattle.past_moments.proofs.Kept.{mark_same}
use Rattle.past_moments.proofs.moments.Moments.go_near.Goals as goal

pub returns-clause-mark : goal.returns-clause-mark
returns-clause-mark g c = λ done are is. mark_same g.D.Disk c.go_whole.new.mark c.keep_near.new.mark c.keep_near.ensures.place
    c.keep_near.ensures.shown (c.in_ok-go_whole.ensures.mark c.if-not-branch.false are is)

pub returns-clause-are : goal.returns-clause-are
returns-clause-are g c = λ are is.
    let all = c.in_ok-go_whole.ensures.are are is in
    record {
      extent = all.extent;
      marks = c.in_ok-keep_near.ensures.kept all.marks (c.in_ok-go_whole.ensures.mark c.if-not-branch.false are is);
    }
