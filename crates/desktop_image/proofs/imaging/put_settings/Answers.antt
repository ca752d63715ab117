use Rattle.image_format.proofs.Putting.{then_put}
use Rattle.desktop_image.proofs.imaging.put_settings.Goals as goal

pub returns : goal.returns
returns g c =
    let k = g.K.ByteSink in
    let through = g.met.K.ByteSink.ground_through in
    then_put k through c.in_ok-put_look.ensures (then_put k through c.in_ok-put_pattern.ensures c.put_cell.ensures)
