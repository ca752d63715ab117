use Rattle.image_format.proofs.Putting.{then_put}
use Rattle.desktop_image.proofs.imaging.put_text.Goals as goal

pub returns-clause-puts : goal.returns-clause-puts
returns-clause-puts g c =
    then_put g.K.ByteSink g.met.K.ByteSink.ground_through c.in_ok-put_word.ensures c.put_pieces_of.ensures.puts
