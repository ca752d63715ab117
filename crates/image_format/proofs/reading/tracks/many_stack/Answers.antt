use Rattle.std.proofs.Common.{refl, ap}
use Rattle.std.proofs.lemmas.List.{map_push}
use Rattle.image_format.specs.Pictures.{track_of_stretches, stack_of_stretches}
use Rattle.image_format.proofs.Loop.{begins, goes_on, stops, is_done}
use Rattle.image_format.proofs.reading.tracks.many_stack.Goals as goal

pub loop-init : goal.loop-init
loop-init g c = begins g.met.S.ByteSource.ground_self c.args.source.now _ (ap stack_of_stretches c.new-stack.ensures.items)

pub loop-preserved : goal.loop-preserved
loop-preserved g c = rw (c.in_ok-push.ensures.items, map_push track_of_stretches c.loop.stack.items c.in_ok-track.track)
    (goes_on g.met.S.ByteSource.ground_through c.loop.invariant _ _ c.loop-test.true c.in_ok-track.ensures.reads
    c.in_ok-track.ensures.fits)

pub returns-in_err-track : goal.returns-in_err-track
returns-in_err-track g c = stops g.met.S.ByteSource.ground_through c.loop.invariant c.from_residual.ensures.1
    c.loop-test.true c.in_err-track.ensures.reads

pub returns : goal.returns
returns g c = is_done c.loop.invariant c.loop-test.false refl
