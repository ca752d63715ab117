use Rattle.std.proofs.Common.{ap}
use Rattle.past_steps.specs.Steps.{step_deeds}
use Rattle.past_steps.proofs.Turned.{as_few}
use Rattle.past_steps.proofs.steps.events_of.Goals as goal

pub returns-in-Events : goal.returns-in-Events
returns-in-Events c = as_few c.args.step c.in-Events.events.items (ap step_deeds c.in-Events.is)
