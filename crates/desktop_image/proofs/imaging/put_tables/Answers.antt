use Rattle.std.proofs.lemmas.Result.{on_ok_weaker}
use Rattle.image_format.proofs.Putting.{then_put}
use Rattle.desktop_image.proofs.imaging.put_tables.Goals as goal

pub returns-clause-puts : goal.returns-clause-puts
returns-clause-puts g c =
    let k = g.K.ByteSink in
    let through = g.met.K.ByteSink.ground_through in
    then_put k through c.in_ok-put_texts.ensures.puts (then_put k through c.in_ok-put_files.ensures.puts
    (then_put k through c.in_ok-put_buffer.ensures.puts c.put_buffer-2.ensures.puts))

pub returns-clause-tables : goal.returns-clause-tables
returns-clause-tables g c =
    on_ok_weaker c.put_buffer-2.result (λ some. record {
      texts = c.in_ok-put_texts.ensures.some;
      files = c.in_ok-put_files.ensures.some;
      copied = c.in_ok-put_buffer.ensures.some;
      deleted = some;
      numbers = c.in_ok-put_texts.ensures.numbers;
    }) c.put_buffer-2.ensures.some
