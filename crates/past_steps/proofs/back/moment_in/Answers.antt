use Rattle.past_steps.proofs.Turned.{moment_was}
use Rattle.past_steps.proofs.back.moment_in.Goals as goal

pub returns-in-Ok-clause-was : goal.returns-in-Ok-clause-was
returns-in-Ok-clause-was g c = moment_was g.D.Disk c.args.base c.args.k c.args.store.now c.in-Ok.found
    c.in-Ok.ensures.comes_back c.in-Ok.ensures.there
