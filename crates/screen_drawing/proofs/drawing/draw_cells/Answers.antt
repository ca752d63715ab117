use Rattle.std.proofs.Common.{arith}
use Rattle.viewer_tracks.specs.declared.display.TheConstants.{COLUMNS}
use Rattle.byte_streams.proofs.Taking.{front_sent, taken_none}
use Rattle.screen_drawing.specs.Drawn.{drawn_column, drawn_cells}
use Rattle.screen_drawing.proofs.Parts.{all_taken, next_front, next_number, next_taken, no_number}
use Rattle.screen_drawing.proofs.drawing.draw_cells.Goals as goal

pub loop-x-init : goal.loop-x-init
unfolding drawn_cells
loop-x-init g c = taken_none _ _

pub returns-in_err-draw_column : goal.returns-in_err-draw_column
returns-in_err-draw_column g c = front_sent c.from_residual.result _ _ _ _ c.from_residual.ensures.1
    (next_front _ _ _ _ _ _ _ (next_number (drawn_column c.args.y c.args.cells.now c.args.row.now) c.loop-x.x COLUMNS
    (omega (arith, c.loop-x-test.true))) c.loop-x.invariant c.in_err-draw_column.ensures.front)

pub loop-x-preserved : goal.loop-x-preserved
loop-x-preserved g c = next_taken _ _ _ _ _ _ _
    (next_number (drawn_column c.args.y c.args.cells.now c.args.row.now) c.loop-x.x COLUMNS
    (omega (arith, c.loop-x-test.true))) c.loop-x.invariant c.in_ok-draw_column.ensures.sent

pub returns : goal.returns
returns g c = record {
  sent = all_taken _ _ _ _ c.loop-x.invariant
      (no_number (drawn_column c.args.y c.args.cells.now c.args.row.now) c.loop-x.x COLUMNS
      (omega (arith, c.loop-x-test.false)));
  front = tt;
}
