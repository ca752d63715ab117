use Rattle.std.proofs.Common.{◌∙◌, ap, sym, length, slice_get}
use Rattle.screen_pictures.specs.declared.cell.Mark.TheVariants.{Menu as MenuMark}
use Rattle.screen_pictures.specs.Bytes.{hyphen}
use Rattle.screen_pictures.specs.Picture.{cell_with}
use Rattle.screen_pictures.specs.Screen.{values}
use Rattle.screen_cells.specs.Shown.{strip_cell}
use Rattle.screen_cells.specs.Lines.{kept_cells}
use Rattle.screen_cells.specs.declared.strip.Strip.{Strip}
use Rattle.screen_cells.proofs.strip.Strip.put.Goals as goal

pub returns-in-Menu : goal.returns-in-Menu
returns-in-Menu c =
    let n = length c.args.cells.now in
    c.put_line.ensures
    ∙ (λ i. values n (λ x. cell_with hyphen (slice_get (c.kept_cells.ensures i) x) MenuMark))
    ∙ ap (λ (s : Strip). values n (strip_cell s (kept_cells c.args.slot.now))) (sym c.in-Menu.is)
