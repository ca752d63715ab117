use Rattle.std.proofs.Common.{◌∙◌, ap, sym}
use Rattle.desk_core.specs.Kept.{kept_desktop}
use Rattle.desk_views.specs.Losses.{replaced_in}
use Rattle.desk_views.proofs.LossLemmas.{taken_on_top}
use Rattle.desk_views.proofs.losses.replaced_in.Goals as goal

pub returns-in-Some-clause-taken : goal.returns-in-Some-clause-taken
returns-in-Some-clause-taken c = c.number_of.ensures ∙ c.replaced.ensures
    ∙ ap (replaced_in (kept_desktop c.args.desk.now)) (sym c.in-Some.is)

pub returns-in-Some-clause-placed : goal.returns-in-Some-clause-placed
returns-in-Some-clause-placed c = taken_on_top (kept_desktop c.args.desk.now) c.in-Some.x c.in-Some.y _ c.requires.whole
    (c.number_of.ensures ∙ c.replaced.ensures)
