use Rattle.std.proofs.Common.{◌∙◌, ap, take, length, List}
use Rattle.text_frames.specs.declared.row.TheConstants.{MOST_COLUMNS}
use Rattle.text_frames.specs.Row.{ShownCell}
use Rattle.screen_pictures.specs.Screen.{values}
use Rattle.screen_cells.specs.Shown.{plain_cell}
use Rattle.screen_cells.proofs.Values.{values_front}
use Rattle.screen_cells.proofs.painted.PaintedLine.put.Goals as goal

pub returns : goal.returns
returns c = c.copy_from_slice.ensures.after
    ∙ ap (take (length c.args.cells.now)) c.self.invariant
    ∙ values_front (length c.args.cells.now) MOST_COLUMNS (plain_cell c.self.inside.filled.items) c.requires
    ∙ ap (λ (l : List ShownCell). values (length c.args.cells.now) (plain_cell l)) c.self.view_is
