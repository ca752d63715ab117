use Rattle.past_pages.proofs.Failing.{looks_none}
use Rattle.desk_past.proofs.Looks.{starved}
use Rattle.past_steps.proofs.steps.run_before.Goals as goal

pub returns-in_err-add_last-clause-looks : goal.returns-in_err-add_last-clause-looks
returns-in_err-add_last-clause-looks g c = starved g.D.Disk (looks_none g.D.Disk (tt {0}) c.args.store.now c.requires)
    c.from_residual.ensures.1
