use Rattle.std.proofs.Common.{◌≡◌, ◌∙◌, ap, false, slice_get}
use Rattle.screen_pictures.specs.declared.cell.Mark.TheVariants.{Text as InText}
use Rattle.screen_pictures.specs.Bytes.{space}
use Rattle.screen_pictures.specs.Mark.{mark_of}
use Rattle.screen_pictures.specs.Picture.{cell_with, is_at, is_selected}
use Rattle.screen_cells.proofs.putting.line_cell.Goals as goal

pub returns : goal.returns
returns c =
    let row = c.args.row in
    let line = c.args.line.now in
    let there : c.filled-c.result ≡ slice_get line c.args.column =
    c.filled-c.ensures ∙ ap (slice_get line) c.from.ensures in
    c.cell_with.ensures
    ∙ (λ i. cell_with space (there i) (c.text_mark-mark.ensures i))
    ∙ (λ i. cell_with space (slice_get line c.args.column) (mark_of false (c.is_at-has_caret.ensures i)
    (c.is_selected-is_inside.ensures i) InText))
    ∙ (λ i. cell_with space (slice_get line c.args.column)
    (mark_of false (is_at row.caret c.args.column row.row) (is_selected row.selection (there i)) InText))
