use Rattle.std.proofs.Common.{refl}
use Rattle.image_format.proofs.Bytes.{read_as_bytes}
use Rattle.image_format.proofs.Loop.{begins, goes_on, stops, is_done}
use Rattle.image_format.proofs.reading.numbers.many_bytes.Goals as goal

pub loop-init : goal.loop-init
loop-init g c = begins g.met.S.ByteSource.ground_self c.args.source.now _ c.new-bytes.ensures

pub loop-preserved : goal.loop-preserved
loop-preserved g c = rw c.push.ensures.items (goes_on g.met.S.ByteSource.ground_through c.loop.invariant _ _
    c.loop-test.true c.in_ok-next_from.ensures.reads tt)

pub returns-in_err-next_from-clause-reads : goal.returns-in_err-next_from-clause-reads
returns-in_err-next_from-clause-reads g c = read_as_bytes _ 0 (stops g.met.S.ByteSource.ground_through
    c.loop.invariant c.from_residual.ensures.1 c.loop-test.true c.in_err-next_from.ensures.reads).reads

pub returns-clause-reads : goal.returns-clause-reads
returns-clause-reads g c = read_as_bytes _ 0 (is_done c.loop.invariant c.loop-test.false refl).reads
