use Rattle.byte_streams.proofs.Taking.{first_front, front_sent, then_sent}
use Rattle.screen_drawing.proofs.drawing.draw_stretch.Goals as goal

pub returns-in_err-draw_paper : goal.returns-in_err-draw_paper
returns-in_err-draw_paper g c =
    front_sent c.from_residual.result _ _ _ _ c.from_residual.ensures.1
    (first_front _ _ _ _ c.in_err-draw_paper.ensures.front)

pub returns : goal.returns
returns g c = then_sent c.draw_text.result _ _ _ _ _ c.in_ok-draw_paper.ensures.sent c.draw_text.ensures
