use Rattle.std.proofs.Common.{◌∙◌}
use Rattle.screen_cells.specs.Lines.{kept_cells}
use Rattle.screen_cells.proofs.PutCells.{with_marker_put}
use Rattle.screen_cells.proofs.screen.put_strips.Goals as goal

pub returns : goal.returns
returns c = c.put_marker.ensures ∙ with_marker_put c.args.user (kept_cells c.args.line.now) c.args.system
    (kept_cells c.args.other.now) c.args.marker c.args.y
    c.put_both.new.row c.put_both.ensures
