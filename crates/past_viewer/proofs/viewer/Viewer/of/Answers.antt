use Rattle.std.proofs.lemmas.Result.{err_from_is_err_and}
use Rattle.past_viewer.proofs.Ending.{of_store}
use Rattle.past_viewer.proofs.viewer.Viewer.of.Goals as goal

pub returns-in_err-of-clause-cause : goal.returns-in_err-of-clause-cause
returns-in_err-of-clause-cause g c =
    let p = err_from_is_err_and c.from_residual.result c.from_residual.ensures.1 in
    rw (p.1, p.2) (of_store c.in_err-of.field-0.0)

pub returns-in-Some-clause-is : goal.returns-in-Some-clause-is
returns-in-Some-clause-is g c = (rw c.in-Some.is at c.in_ok-of.ensures.is)
