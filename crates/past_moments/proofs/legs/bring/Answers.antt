use Rattle.std.proofs.Common.{ap}
use Rattle.desktop_definitions.specs.Step.{Outcome}
use Rattle.past_moments.proofs.legs.bring.Goals as goal

pub returns : goal.returns
returns c = ap (λ (o : Outcome). o.desktop) ((rw c.in_ok-_reply.ensures at c.bring.ensures.ok).brought.done tt)
