use Rattle.std.proofs.Common.{refl, arith}
use Rattle.image_format.proofs.Loop.{begins, goes_on, stops, is_done}
use Rattle.image_format.proofs.Totals.{total_push}
use Rattle.image_format.proofs.reading.pieces.many_pieces.Goals as goal

pub loop-init : goal.loop-init
loop-init g c = record {
  at = begins g.met.S.ByteSource.ground_self c.args.source.now _ c.in_ok-pieces.ensures;
  sum = rw c.in_ok-pieces.ensures (omega arith);
  small = omega (arith, c.type_inv.left);
}

pub put-requires-clause-fits : goal.put-requires-clause-fits
put-requires-clause-fits g c =
    omega (arith, c.loop.invariant.sum, c.loop.invariant.small, c.in_ok-piece.ensures.fits.short)

pub loop-preserved : goal.loop-preserved
loop-preserved g c = record {
  at = rw c.in_ok-put.ensures (goes_on g.met.S.ByteSource.ground_through c.loop.invariant.at _ _ c.loop-test.true
      c.in_ok-piece.ensures.reads c.in_ok-piece.ensures.fits);
  sum = rw c.in_ok-put.ensures (omega (
    arith,
    total_push (g.H.Holder.held c.loop.pieces) c.in_ok-piece.piece,
    c.loop.invariant.sum,
    c.in_ok-piece.ensures.fits.short,
  ));
  small = c.loop.invariant.small;
}

pub returns-in_err-piece-clause-items : goal.returns-in_err-piece-clause-items
returns-in_err-piece-clause-items g c = stops g.met.S.ByteSource.ground_through c.loop.invariant.at
    c.from_residual-in_err-piece.ensures.1 c.loop-test.true c.in_err-piece.ensures.reads

pub returns-clause-items : goal.returns-clause-items
returns-clause-items g c = is_done c.loop.invariant.at c.loop-test.false refl
