use Rattle.std.proofs.Common.{◌∙◌, length}
use Rattle.screen_pictures.specs.Picture.{is_edge, line_cell, with_edge}
use Rattle.screen_pictures.specs.Screen.{column_at, values}
use Rattle.screen_cells.specs.Lines.{kept_cells}
use Rattle.screen_cells.proofs.PutCells.{with_edge_put}
use Rattle.screen_cells.proofs.putting.put_text.Goals as goal

pub returns : goal.returns
returns c =
    let f = c.args.row in
    let line = kept_cells c.args.slot.now in
    let cells = c.put_cells.new.cells in
    c.put_edge.ensures
    ∙ (λ i. values (length cells) (λ x. with_edge (is_edge f.columns (c.kept_cells.ensures i) x) (column_at cells x)))
    ∙ with_edge_put (length c.args.cells.now) (λ x. line_cell line f.caret f.selection x f.row) line f.columns cells
    c.put_cells.ensures
