use Rattle.image_format.proofs.Putting.{then_put}
use Rattle.image_format.proofs.writing.put_counted.Goals as goal

pub returns : goal.returns
returns g c = then_put g.K.ByteSink g.met.K.ByteSink.ground_through c.in_ok-put_byte.ensures c.put_bytes.ensures
