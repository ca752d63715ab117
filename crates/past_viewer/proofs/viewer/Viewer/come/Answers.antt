use Rattle.std.proofs.lemmas.Result.{err_from_is_err_and}
use Rattle.past_pages.proofs.StillReads.{still_none}
use Rattle.past_viewer.proofs.Ending.{of_store}
use Rattle.past_viewer.proofs.viewer.Viewer.come.Goals as goal

pub returns-then-has_come-clause-still : goal.returns-then-has_come-clause-still
returns-then-has_come-clause-still g c = still_none g.D.Disk _ c.requires

pub returns-in_err-comes-clause-cause : goal.returns-in_err-comes-clause-cause
returns-in_err-comes-clause-cause g c =
    let p = err_from_is_err_and c.from_residual.result c.from_residual.ensures.1 in
    rw (p.1, p.2) (of_store c.in_err-comes.field-0.0)
