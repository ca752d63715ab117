use Rattle.std.proofs.Common.{◌≡◌, ◌+◌, drop}
use Rattle.past_viewer.specs.Calling.{told_at_once}
use Rattle.past_viewer.proofs.keys.told_at_once.Given as goal

abbrev pub invariant-loop-i : goal.invariant-loop-i
invariant-loop-i l = told_at_once l.fn.parser l.fn.pastes l.heard ≡ l.i + told_at_once l.parser l.pastes (drop l.i l.heard)
