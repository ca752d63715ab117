use Rattle.byte_streams.proofs.Taking.{sent_as}
use Rattle.screen_drawing.proofs.Parts.{start_drawn}
use Rattle.screen_drawing.proofs.drawing.draw_start.Goals as goal

pub returns : goal.returns
returns g c = sent_as c.draw_stretch.result _ _ _ _
    (start_drawn c.args.place.0 c.args.place.1 c.args.row.now _ _ c.is_start.result c.if-not-is_start.false
    c.is_start.ensures c.stretch_at.ensures.value c.pen_at.ensures) c.draw_stretch.ensures
