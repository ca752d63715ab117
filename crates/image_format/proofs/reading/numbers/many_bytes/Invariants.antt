use Rattle.image_format.specs.Steps.{any_at}
use Rattle.image_format.proofs.Bytes.{Anything, on}
use Rattle.image_format.proofs.Loop.{IsAt}
use Rattle.image_format.proofs.reading.numbers.many_bytes.Given as goal

abbrev pub invariant-loop : goal.invariant-loop
invariant-loop g l =
    IsAt g.S.ByteSource (λ i. any_at) Anything on l.count l.counter 0 l.counter l.bytes.items l.fn.source l.source
