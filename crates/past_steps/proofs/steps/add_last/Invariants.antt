use Rattle.std.proofs.Common.{◌≤◌, length}
use Rattle.past_steps.proofs.steps.add_last.Given as goal

-- no more than are asked for
abbrev pub invariant-loop-events : goal.invariant-loop-events
invariant-loop-events l = length l.found.items ≤ l.most

abbrev pub decreases-loop-events : goal.decreases-loop-events
decreases-loop-events l = length l.events.items
