use Rattle.std.proofs.Common.{◌≤◌, length}
use Rattle.past_moments.proofs.steps.step_start.Given as goal

abbrev pub invariant-loop-start : goal.invariant-loop-start
invariant-loop-start l = (l.start ≤ length l.events) × (l.start ≤ l.count)

abbrev pub decreases-loop-start : goal.decreases-loop-start
decreases-loop-start l = l.start
