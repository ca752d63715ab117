use Rattle.std.proofs.Common.{refl}
use Rattle.image_format.proofs.Loop.{begins, goes_on, stops, is_done}
use Rattle.image_format.proofs.reading.viewers.many_viewers.Goals as goal

pub loop-init : goal.loop-init
loop-init g c = begins g.met.S.ByteSource.ground_self c.args.source.now _ c.new-viewers.ensures.items

pub loop-preserved : goal.loop-preserved
loop-preserved g c = rw c.in_ok-push.ensures.items (goes_on g.met.S.ByteSource.ground_through c.loop.invariant _ _
    c.loop-test.true c.in_ok-viewer.ensures.reads c.in_ok-viewer.ensures.fits)

pub returns-in_err-viewer : goal.returns-in_err-viewer
returns-in_err-viewer g c = stops g.met.S.ByteSource.ground_through c.loop.invariant c.from_residual.ensures.1
    c.loop-test.true c.in_err-viewer.ensures.reads

pub returns : goal.returns
returns g c = is_done c.loop.invariant c.loop-test.false refl
