use Rattle.std.proofs.lemmas.Result.{IfOk-weaker, on_ok_weaker}
use Rattle.past_pages.proofs.StillReads.{still_both}
use Rattle.past_moments.proofs.moments.Moments.seek_page.Goals as goal

pub returns-clause-sought : goal.returns-clause-sought
returns-clause-sought g c = IfOk-weaker c.gone_from.result _ _ (λ sought fact are.
    fact (c.in_ok-mark.ensures.are are) ((rw c.in-Some-2.is at c.in_ok-mark.ensures.mark) are)) c.gone_from.ensures.sought

pub returns-clause-are : goal.returns-clause-are
returns-clause-are g c = on_ok_weaker c.gone_from.result (λ fact are. fact (c.in_ok-mark.ensures.are are)) c.gone_from.ensures.are

pub returns-clause-still : goal.returns-clause-still
returns-clause-still g c = still_both g.D.Disk c.page_before.ensures.still c.gone_from.ensures.still
