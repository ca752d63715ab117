use Rattle.std.proofs.Common.{◌++◌}
use Rattle.byte_streams.proofs.Taking.{first_front, front_sent, sent_as, then_sent}
use Rattle.screen_drawing.specs.Drawn.{drawn_caret, drawn_column, drawn_start}
use Rattle.screen_drawing.proofs.drawing.draw_column.Goals as goal

pub returns-in_err-draw_start : goal.returns-in_err-draw_start
unfolding drawn_column
returns-in_err-draw_start g c =
    front_sent c.from_residual.result _ _ _ _ c.from_residual.ensures.1
    (first_front _ _ _ _ c.in_err-draw_start.ensures.front)

pub returns : goal.returns
unfolding drawn_column
returns g c = sent_as c.draw_caret.result _ _ _ _
    (λ k. drawn_start c.args.place.1 c.args.row.now c.args.place.0
    ++ drawn_caret c.args.place.0 c.args.place.1 (c.mark_at.ensures k))
    (then_sent c.draw_caret.result _ _ _ _ _ c.in_ok-draw_start.ensures.sent c.draw_caret.ensures)
