use Rattle.std.proofs.Common.{◌∙◌, ap}
use Rattle.desk_core.specs.Kept.{kept_desktop}
use Rattle.desk_views.specs.Losses.{taken_by, replaced_in}
use Rattle.desk_views.proofs.losses.taken_by.Goals as goal

pub returns-clause-taken : goal.returns-clause-taken
unfolding taken_by
returns-clause-taken c = c.replaced_in.ensures.taken ∙ ap (replaced_in (kept_desktop c.args.desk.now)) c.opening_cell.ensures.cell
