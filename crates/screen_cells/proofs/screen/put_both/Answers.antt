use Rattle.std.proofs.Common.{◌≡◌, ◌∙◌, ◌-◌, ◌++◌, length, arith}
use Rattle.viewer_tracks.specs.declared.display.TheConstants.{COLUMNS, SYSTEM_LEFT}
use Rattle.screen_pictures.specs.Screen.{values}
use Rattle.screen_cells.specs.Shown.{strip_cell}
use Rattle.screen_cells.specs.Lines.{kept_cells}
use Rattle.screen_cells.proofs.PutCells.{both_put}
use Rattle.screen_cells.proofs.screen.put_both.Goals as goal

pub returns : goal.returns
returns c =
    let parts = c.split_at_mut-left.result in
    let left : length parts.0.now ≡ SYSTEM_LEFT = omega (arith, c.split_at_mut-left.ensures.front_len) in
    let right : length parts.1.now ≡ COLUMNS - SYSTEM_LEFT =
    omega (arith, c.split_at_mut-left.ensures.back_len, c.told-row) in
    (λ i. c.put.ensures i ++ c.put-2.ensures i)
    ∙ (λ i. values (left i) (strip_cell c.args.user (kept_cells c.args.line.now))
    ++ values (right i) (strip_cell c.args.system (kept_cells c.args.other.now)))
    ∙ both_put c.args.user (kept_cells c.args.line.now) c.args.system (kept_cells c.args.other.now)
