use Rattle.std.proofs.Common.{sym, arith}
use Rattle.screen_cells.proofs.Trimming.{without_trailing_is}
use Rattle.screen_cells.proofs.line.without_trailing.Goals as goal
use Rattle.screen_cells.proofs.line.without_trailing.Goals.{then-loop-len-test+else-bytes-len, else-loop-len-test}

pub returns-clause-front : goal.returns-clause-front
returns-clause-front c = elim c.loop-len-test.branch [
  | then-loop-len-test+else-bytes-len w ↦ sym
      (without_trailing_is c.args.blank c.args.bytes.now c.loop-len.len c.loop-len.invariant
      (λ some. w.if-bytes-len.false))
  | else-loop-len-test w ↦ sym (without_trailing_is c.args.blank c.args.bytes.now c.loop-len.len c.loop-len.invariant
      (λ some. absurd (omega (arith, w.loop-len-test.false))))
]
