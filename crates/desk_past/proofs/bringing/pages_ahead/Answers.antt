use Rattle.std.proofs.Common.{◌∙◌}
use Rattle.std.proofs.lemmas.Result.{IfOk-weaker}
use Rattle.past_pages.specs.Page.{import_of}
use Rattle.past_pages.proofs.StillReads.{still_none}
use Rattle.desk_past.proofs.Opened.{if_none_then, if_some_then}
use Rattle.desk_past.proofs.bringing.pages_ahead.Goals as goal

pub returns-in_err-import-clause-still : goal.returns-in_err-import-clause-still
returns-in_err-import-clause-still g c = still_none g.D.Disk c.args.store.now c.requires

pub returns-in_default-clause-still : goal.returns-in_default-clause-still
returns-in_default-clause-still g c = still_none g.D.Disk c.args.store.now c.requires

pub returns-in_default-clause-none : goal.returns-in_default-clause-none
returns-in_default-clause-none g c = λ honest start deeds desktop keeps can.
    (rw c.in_default.is at c.in_ok-import.ensures.none) can.fit

pub returns-clause-ahead : goal.returns-clause-ahead
returns-clause-ahead g c = IfOk-weaker c.page_ahead.result _ _ (λ found fact. if_some_then found fact
    (λ a ahead honest start deeds desktop keeps.
    ahead honest start deeds desktop (import_of c.args.documents.now) keeps
    (c.as_slice.ensures.value ∙ (rw c.in-Some.is at c.in_ok-import.ensures.page))
    (rw c.in-Some.is at c.in_ok-import.ensures.good))) c.page_ahead.ensures.ahead

pub returns-clause-none : goal.returns-clause-none
returns-clause-none g c = IfOk-weaker c.page_ahead.result _ _ (λ found fact. if_none_then found fact
    (λ none honest start deeds desktop keeps can.
    none honest start deeds desktop (import_of c.args.documents.now) keeps
    (c.as_slice.ensures.value ∙ (rw c.in-Some.is at c.in_ok-import.ensures.page))
    (rw c.in-Some.is at c.in_ok-import.ensures.good) can.add)) c.page_ahead.ensures.none
