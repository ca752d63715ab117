use Rattle.std.proofs.Common.{refl}
use Rattle.past_moments.proofs.Kept.{marks_more}
use Rattle.past_moments.proofs.marks.Marks.add.Goals as goal

pub returns : goal.returns
returns g c = λ are is. marks_more g.D.Disk c.args.self.now _ c.args.mark c.in_ok-push.ensures.items refl is are
