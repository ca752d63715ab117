use Rattle.desk_views.proofs.Painted.{selected_here}
use Rattle.desk_views.proofs.views.selection_in.Goals as goal

pub returns-then-selection-id : goal.returns-then-selection-id
returns-then-selection-id c =
    selected_here c.args.selections.now c.args.id c.loop-at.at _ c.loop-at-test.true c.loop-at.invariant.place
    c.loop-at.invariant.found c.if-selection-id.true
