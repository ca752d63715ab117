use Rattle.std.proofs.Common.{◌∙◌}
use Rattle.byte_streams.proofs.Taking.{sent_as}
use Rattle.screen_drawing.proofs.Elements.{rectangle_pieces}
use Rattle.screen_drawing.proofs.shapes.rectangle.Goals as goal

pub returns : goal.returns
returns g c = sent_as c.send_all.result _ _ _ _
    (rectangle_pieces c.args.area.x c.args.area.y c.args.area.width c.args.area.height c.args.colour _ _ _ _ _
    (c.as_slice.ensures.value ∙ c.digits.ensures) (c.as_slice-2.ensures.value ∙ c.digits-2.ensures)
    (c.as_slice-3.ensures.value ∙ c.digits-3.ensures) (c.as_slice-4.ensures.value ∙ c.digits-4.ensures)
    c.colour_code.ensures) c.send_all.ensures
