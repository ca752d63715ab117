use Rattle.image_format.proofs.Putting.{then_put}
use Rattle.desktop_image.proofs.imaging.put_display.Goals as goal

pub returns-clause-puts : goal.returns-clause-puts
returns-clause-puts g c =
    let k = g.K.ByteSink in
    let through = g.met.K.ByteSink.ground_through in
    then_put k through c.in_ok-put_pictures.ensures.puts (then_put k through c.in_ok-put_stack.ensures
    (then_put k through c.in_ok-put_stack-2.ensures c.put_closed.ensures))
