use Rattle.image_format.proofs.Putting.{then_put}
use Rattle.image_format.proofs.writing.put_viewer.Goals as goal

pub returns : goal.returns
returns g c =
    let k = g.K.ByteSink in
    let through = g.met.K.ByteSink.ground_through in
    then_put k through c.in_ok-put_word.ensures (then_put k through c.in_ok-put_word-2.ensures
    (then_put k through c.in_ok-put_word-3.ensures (then_put k through c.in_ok-put_long.ensures
    (then_put k through c.in_ok-put_caret.ensures c.put_ranked.ensures))))
