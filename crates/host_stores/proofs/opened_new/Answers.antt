use Rattle.std.proofs.lemmas.Result.{IfOk-weaker}
use Rattle.sector_disk.proofs.Touching.{read_is_an_image}
use Rattle.host_stores.proofs.opened_new.Goals as goal

pub returns-clause-empty : goal.returns-clause-empty
returns-clause-empty g c = IfOk-weaker c.opened.result _ _ (λ store opened honest.
    (c.showing_law.ensures _ _ _ _ _ _ _ _ _ _
    (c.in_ok-formatted.ensures.empty honest _ (read_is_an_image _))
    (opened.found (c.in_ok-formatted.ensures.still honest))).0) c.opened.ensures.ok
