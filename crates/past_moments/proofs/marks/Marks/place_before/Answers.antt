use Rattle.past_moments.proofs.Kept.{mark_at, near_is}
use Rattle.past_moments.proofs.marks.Marks.place_before.Goals as goal

pub returns-in-Some : goal.returns-in-Some
returns-in-Some g c = λ are. (near_is g.D.Disk c.args.self.now c.in-Some.near c.in-Some.is are).place

pub returns-in_default : goal.returns-in_default
returns-in_default g c = λ are. (mark_at g.D.Disk c.args.self.now c.in_ok-best.best c.index.result.now c.in_ok-best.ensures
    c.index.ensures are).place

pub returns-in_default-2 : goal.returns-in_default-2
returns-in_default-2 g c = λ are. (mark_at g.D.Disk c.args.self.now c.in_ok-best.best c.index.result.now c.in_ok-best.ensures
    c.index.ensures are).place

pub returns-in_default-3 : goal.returns-in_default-3
returns-in_default-3 g c = λ are. (mark_at g.D.Disk c.args.self.now c.in_ok-best.best c.index.result.now c.in_ok-best.ensures
    c.index.ensures are).place
