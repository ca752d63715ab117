use Rattle.std.proofs.Common.{◌++◌, List, ℕ, subst}
use Rattle.event_bytes.specs.Parts.{byte, counted_bytes}
use Rattle.image_format.specs.Streams.{Puts}
use Rattle.image_format.specs.Image.{pieces_bytes}
use Rattle.image_format.proofs.Putting.{then_put}
use Rattle.desktop_image.proofs.imaging.put_file.Goals as goal

pub returns-clause-puts : goal.returns-clause-puts
returns-clause-puts g c =
    subst (λ (name : List ℕ). Puts g.K.ByteSink c.put_pieces_of.result
    (counted_bytes byte name ++ pieces_bytes c.args.text.now) c.args.sink.now c.put_pieces_of.new.sink)
    c.as_bytes.ensures.value
    (then_put g.K.ByteSink g.met.K.ByteSink.ground_through c.in_ok-put_counted.ensures c.put_pieces_of.ensures.puts)
