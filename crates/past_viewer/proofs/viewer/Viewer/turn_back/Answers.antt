use Rattle.std.proofs.Common.{◌∙◌, Err, ap}
use Rattle.std.proofs.lemmas.Result.{err_from_is_err_and}
use Rattle.past_viewer.proofs.Ending.{not_in_use, of_store}
use Rattle.past_viewer.proofs.viewer.Viewer.turn_back.Goals as goal

-- ---- the turn fails

pub returns-in_err-turn_back-clause-usable : goal.returns-in_err-turn_back-clause-usable
returns-in_err-turn_back-clause-usable g c =
    let p = err_from_is_err_and c.from_residual.result c.from_residual.ensures.1 in
    not_in_use c.in_err-turn_back.field-0.0 _ (p.1 ∙ ap (λ e. Err e) p.2)

pub returns-in_err-turn_back-clause-cause : goal.returns-in_err-turn_back-clause-cause
returns-in_err-turn_back-clause-cause g c =
    let p = err_from_is_err_and c.from_residual.result c.from_residual.ensures.1 in
    rw (p.1, p.2) (of_store c.in_err-turn_back.field-0.0)

-- ---- the store is turned, or it stays

pub returns-then-branch-clause-does : goal.returns-then-branch-clause-does
returns-then-branch-clause-does g c = c.in_ok-turn_back.ensures.turned c.if-branch.true

pub returns-else-branch-clause-does : goal.returns-else-branch-clause-does
returns-else-branch-clause-does g c = c.in_ok-turn_back.ensures.stays c.if-branch.false
