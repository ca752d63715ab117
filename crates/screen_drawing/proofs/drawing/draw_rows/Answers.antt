use Rattle.std.proofs.Common.{arith}
use Rattle.viewer_tracks.specs.declared.display.TheConstants.{ROWS}
use Rattle.byte_streams.proofs.Taking.{front_sent, taken_none}
use Rattle.screen_drawing.specs.Drawn.{drawn_row}
use Rattle.screen_drawing.proofs.Parts.{all_taken, next_front, next_number, next_taken, no_number}
use Rattle.screen_drawing.proofs.drawing.draw_rows.Goals as goal

pub loop-y-init : goal.loop-y-init
loop-y-init g c = taken_none _ _

pub returns-in_err-draw_row : goal.returns-in_err-draw_row
returns-in_err-draw_row g c = front_sent c.from_residual.result _ _ _ _ c.from_residual.ensures.1
    (next_front _ _ _ _ _ _ _ (next_number (drawn_row c.args.screen.now) c.loop-y.y ROWS
    (omega (arith, c.loop-y-test.true))) c.loop-y.invariant c.in_err-draw_row.ensures.front)

pub loop-y-preserved : goal.loop-y-preserved
loop-y-preserved g c = next_taken _ _ _ _ _ _ _
    (next_number (drawn_row c.args.screen.now) c.loop-y.y ROWS
    (omega (arith, c.loop-y-test.true))) c.loop-y.invariant c.in_ok-draw_row.ensures.sent

pub returns : goal.returns
returns g c = record {
  sent = all_taken _ _ _ _ c.loop-y.invariant
      (no_number (drawn_row c.args.screen.now) c.loop-y.y ROWS
      (omega (arith, c.loop-y-test.false)));
  front = tt;
}
