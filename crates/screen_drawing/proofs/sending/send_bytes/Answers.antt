use Rattle.std.proofs.Common.{◌∙◌}
use Rattle.byte_streams.proofs.Taking.{taken_more}
use Rattle.screen_drawing.proofs.sending.send_bytes.Goals as goal

pub loop-rest-preserved : goal.loop-rest-preserved
loop-rest-preserved g c = record {
  taken = taken_more _ _ _ _ _ _ c.loop-rest.invariant.taken c.in_ok-taken.ensures.taken;
  calm = c.in_ok-taken.ensures.cause ∙ c.loop-rest.invariant.calm;
}
