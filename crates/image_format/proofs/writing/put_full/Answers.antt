use Rattle.image_format.proofs.Putting.{all_taken}
use Rattle.image_format.proofs.writing.put_full.Goals as goal

pub returns-clause-puts : goal.returns-clause-puts
returns-clause-puts g c =
    all_taken g.K.ByteSink c.args.block.now.items c.as_slice.result.now c.clear.new.self.items c.as_slice.ensures.value
    c.clear.ensures c.in_ok-put.ensures.put c.in_ok-put.ensures.stands c.in_ok-put.ensures.cause
