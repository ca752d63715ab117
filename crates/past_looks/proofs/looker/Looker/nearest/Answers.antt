use Rattle.std.proofs.Common.{refl}
use Rattle.std.proofs.lemmas.Result.{on_ok_weaker}
use Rattle.past_looks.proofs.Carrying.{looker_moved}
use Rattle.past_looks.proofs.looker.Looker.nearest.Goals as goal

pub returns-clause-looker : goal.returns-clause-looker
returns-clause-looker g c = on_ok_weaker c.nearest.result (λ are is.
    looker_moved g.D.Disk c.nearest.ensures.still c.requires (c.shows_what_crashes_leave.ensures.quiet c.requires)
    c.args.self.now _ are refl refl refl is) c.nearest.ensures.are
