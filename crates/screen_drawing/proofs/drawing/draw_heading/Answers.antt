use Rattle.std.proofs.Common.{◌∙◌}
use Rattle.byte_streams.proofs.Taking.{sent_as}
use Rattle.screen_drawing.proofs.Elements.{heading_pieces}
use Rattle.screen_drawing.proofs.drawing.draw_heading.Goals as goal

pub returns : goal.returns
returns g c = sent_as c.send_all.result _ _ _ _
    (heading_pieces _ _ _ _ (c.as_slice.ensures.value ∙ c.digits-width.ensures)
    (c.as_slice-2.ensures.value ∙ c.digits-height.ensures) (c.as_slice-3.ensures.value ∙ c.digits-width.ensures)
    (c.as_slice-4.ensures.value ∙ c.digits-height.ensures)) c.send_all.ensures
