use Rattle.std.proofs.Common.{◌≡◌, ◌∙◌, ◌+◌, ◌++◌, length, arith}
use Rattle.screen_pictures.specs.Picture.{text_cell}
use Rattle.screen_pictures.specs.Screen.{values}
use Rattle.screen_cells.specs.Lines.{kept_cells}
use Rattle.screen_cells.proofs.PutCells.{bar_and_text}
use Rattle.screen_cells.proofs.putting.put_row.Goals as goal

pub returns : goal.returns
returns c =
    let f = c.args.row in
    let line = kept_cells c.args.slot.now in
    let parts = c.split_at_mut-bar.result in
    (λ i. c.put_same.ensures i ++ c.put_text.ensures i)
    ∙ (λ i. values (c.split_at_mut-bar.ensures.front_len i) (λ x. c.cell_with.ensures i)
    ++ values (length parts.1.now) (λ x. text_cell f.columns line f.caret f.selection x f.row))
    ∙ bar_and_text (length c.args.cells.now) (length parts.1.now) line f c.split_at_mut-bar.ensures.back_len
