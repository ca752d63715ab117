use Rattle.std.proofs.Common.{length, arith}
use Rattle.screen_pictures.specs.Picture.{filler}
use Rattle.screen_cells.proofs.Values.{values_is}
use Rattle.screen_cells.proofs.putting.put_same.Goals as goal

pub returns : goal.returns
returns c = values_is (length c.args.cells.now) _ _ filler c.loop-x.invariant.as_long
    (λ k below. c.loop-x.invariant.done k (omega (arith, below, c.loop-x-test.false)))
