use Rattle.std.proofs.Common.{sym, ◌∙◌, ◌<◌, length, arith}
use Rattle.std.specs.Prelude.{map}
use Rattle.std.proofs.lemmas.List.{get_or-map, length-map}
use Rattle.viewer_tracks.specs.declared.display.TheConstants.{COLUMNS}
use Rattle.screen_pictures.specs.declared.cell.Cell.{Cell}
use Rattle.screen_pictures.specs.Picture.{filler}
use Rattle.screen_pictures.specs.Screen.{column_at}
use Rattle.screen_cells.proofs.Values.{values_is}
use Rattle.screen_cells.proofs.line.characters.Goals as goal

pub returns : goal.returns
returns c =
    let row = c.args.row.now in
    let done = c.loop-x.invariant in
    values_is COLUMNS (λ x. (column_at row x).ch) c.loop-x.bytes 0 done.as_long
    (λ k below. done.done k (omega (arith, below, c.loop-x-test.false)))
    ∙ sym (values_is COLUMNS (λ x. (column_at row x).ch) (map (λ (cell : Cell). cell.ch) row) 0
    (length-map row (λ (cell : Cell). cell.ch) ∙ c.told-row)
    (λ k below. get_or-map (λ (cell : Cell). cell.ch) row k filler 0
    (let low : k < length row = omega (arith, below, c.told-row) in low)))
