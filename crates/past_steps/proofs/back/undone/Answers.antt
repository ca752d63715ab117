use Rattle.std.proofs.Common.{refl}
use Rattle.past_steps.specs.Steps.{undone}
use Rattle.past_steps.proofs.back.undone.Goals as goal

pub returns-in-Ok-clause-ok : goal.returns-in-Ok-clause-ok
returns-in-Ok-clause-ok g c = undone c.in-Ok.events.items refl c.in-Ok.ensures.ok
