use Rattle.std.proofs.lemmas.Result.{IfOk-weaker}
use Rattle.past_pages.proofs.StillReads.{still_both}
use Rattle.desk_past.proofs.Opened.{if_some_then}
use Rattle.past_looks.proofs.looker.Looker.of.Goals as goal

pub returns-clause-is : goal.returns-clause-is
returns-clause-is g c =
    let are = (rw c.in-Some.is at c.in_ok-moments.ensures.are) in
    IfOk-weaker c.with_look.result _ _ (λ found is. if_some_then found is (λ looker known. known are)) c.with_look.ensures.is

pub returns-clause-still : goal.returns-clause-still
returns-clause-still g c = still_both g.D.Disk c.of.ensures.still c.with_look.ensures.still
