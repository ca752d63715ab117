use Rattle.byte_streams.proofs.Taking.{taken_more}
use Rattle.byte_streams.proofs.sending.send.Goals as goal

pub loop-rest-preserved : goal.loop-rest-preserved
loop-rest-preserved g c = taken_more _ _ _ _ _ _ c.loop-rest.invariant c.in_ok-taken.ensures.taken
