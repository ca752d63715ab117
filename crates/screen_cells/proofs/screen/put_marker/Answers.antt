use Rattle.std.proofs.Common.{◌≡◌, ◌<◌, ◌∙◌, true, length, get_or, set, Some, ap, sym, subst, arith}
use Rattle.std.proofs.lemmas.List.{get_or_default}
use Rattle.viewer_tracks.specs.declared.display.TheConstants.{COLUMNS}
use Rattle.screen_pictures.specs.Picture.{filler, is_at, with_marker}
use Rattle.screen_pictures.specs.Screen.{values, column_at}
use Rattle.screen_cells.proofs.PutCells.{unmarked, marked_at}
use Rattle.screen_cells.proofs.screen.put_marker.Goals as goal

pub returns-in_default : goal.returns-in_default
returns-in_default c = unmarked c.args.row.now c.args.marker c.args.y c.told-row c.in_default.ensures.none

pub returns : goal.returns
returns c =
    let row = c.args.row.now in
    let x = c.in-Some.x in
    let low : c.from-at.result < length row = omega (arith, c.from-at.ensures, c.in-Some.ensures.inside, c.told-row) in
    ap (λ n. set row n c.marked.result) c.from-at.ensures
    ∙ marked_at row x c.args.y c.marked.result c.told-row c.in-Some.ensures.inside
    (c.marked.ensures ∙ ap (with_marker true) (get_or_default row c.from-at.result _ filler low
    ∙ ap (λ n. get_or row n filler) c.from-at.ensures))
    ∙ ap (λ m. values COLUMNS (λ k. with_marker (is_at m k c.args.y) (column_at row k))) (sym c.in-Some.ensures.some)
