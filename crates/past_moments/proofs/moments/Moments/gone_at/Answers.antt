use Rattle.std.proofs.Common.{◌-◌, ap, sym}
use Rattle.std.proofs.lemmas.Result.{IfOk-weaker}
use Rattle.past_moments.specs.Seeking.{stands, stands_at_moment}
use Rattle.past_moments.proofs.Carried.{standing_on}
use Rattle.past_moments.proofs.Kept.{whatever}
use Rattle.past_moments.proofs.moments.Moments.gone_at.Goals as goal

pub returns-clause-sought : goal.returns-clause-sought
returns-clause-sought g c = IfOk-weaker c.gone_then.result _ _ (λ sought fact. λ are is past lies.
    let d = g.D.Disk in
    let word = c.args.word.now in
    let before = standing_on d c.at.ensures.still c.requires.usable (c.shows_what_crashes_leave.ensures.quiet c.requires.usable)
    (c.args.k - 1) word is past lies in
    let behind = (rw c.in-Some.is at c.in_ok-next.ensures.shown) are past lies in
    fact (stands_at_moment past.start past.deeds word) before (ap (stands word) (sym behind.is))) c.gone_then.ensures.sought

pub returns-clause-are : goal.returns-clause-are
returns-clause-are g c = whatever c.gone_then.result c.in_ok-next.ensures.are
