use Rattle.std.proofs.Common.{◌∙◌}
use Rattle.std.proofs.Common.{length}
use Rattle.screen_pictures.specs.Picture.{line_cell}
use Rattle.screen_pictures.specs.Screen.{values}
use Rattle.screen_cells.specs.Lines.{kept_cells}
use Rattle.screen_cells.proofs.PutCells.{plain_row}
use Rattle.screen_cells.proofs.putting.put_cells.Goals as goal

pub returns-then-is_plain : goal.returns-then-is_plain
returns-then-is_plain c =
    c.put_plain.ensures
    ∙ plain_row _ (kept_cells c.args.slot.now) c.args.row (c.is_plain.ensures.selection c.if-is_plain.true)
    (c.is_plain.ensures.caret c.if-is_plain.true)

pub returns-else-is_plain : goal.returns-else-is_plain
returns-else-is_plain c =
    c.put_each.ensures
    ∙ (λ i. values (length c.args.cells.now) (λ x. line_cell (c.kept_cells.ensures i) c.args.row.caret
    c.args.row.selection x c.args.row.row))
