use Rattle.std.proofs.Common.{arith, length-set, ◌∙◌}
use Rattle.terminal_keyboard.proofs.Hearings.{next_heard}
use Rattle.terminal_keyboard.proofs.hearing.Hearing.of_bytes.Goals as goal

pub loop-i-preserved : goal.loop-i-preserved
loop-i-preserved c =
    let (len, so_far) = c.loop-i.invariant in (
      length-set c.loop-i.room c.loop-i.i _ ∙ len,
      next_heard c.loop-i.room c.args.heard.now c.loop-i.i (omega arith) (omega arith) so_far,
    )
