use Rattle.std.proofs.Common.{◌∙◌}
use Rattle.std.proofs.lemmas.Result.{IfOk-weaker}
use Rattle.past_pages.specs.Page.{turn_of}
use Rattle.past_pages.proofs.StillReads.{still_none}
use Rattle.desk_past.proofs.Opened.{if_none_then, if_some_then}
use Rattle.desk_past.proofs.TurnWays.{turn_good}
use Rattle.desk_past.proofs.turning.turn_ahead.Goals as goal

pub returns-in_err-page-clause-still : goal.returns-in_err-page-clause-still
returns-in_err-page-clause-still g c = still_none g.D.Disk c.args.store.now c.requires

pub returns-clause-ahead : goal.returns-clause-ahead
returns-clause-ahead g c = IfOk-weaker c.page_ahead.result _ _ (λ found fact. if_some_then found fact
    (λ a ahead to past.
    ahead past.honest past.start past.deeds past.desktop (turn_of c.args.k to) past.keeps
    (c.as_slice.ensures.value ∙ c.in_ok-page.ensures to) (turn_good c.args.k to c.ranges.k.fits)))
    c.page_ahead.ensures.ahead

pub returns-clause-none : goal.returns-clause-none
returns-clause-none g c = IfOk-weaker c.page_ahead.result _ _ (λ found fact. if_none_then found fact
    (λ none to can.
    none can.past.honest can.past.start can.past.deeds can.past.desktop (turn_of c.args.k to) can.past.keeps
    (c.as_slice.ensures.value ∙ c.in_ok-page.ensures to) (turn_good c.args.k to c.ranges.k.fits) can.add))
    c.page_ahead.ensures.none
