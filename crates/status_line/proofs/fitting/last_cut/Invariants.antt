use Rattle.std.proofs.Common.{◌≡◌, ◌≤◌}
use Rattle.status_line.specs.Fitting.{last_cut}
use Rattle.status_line.proofs.fitting.last_cut.Given as goal

abbrev pub invariant-loop-at : goal.invariant-loop-at
invariant-loop-at l = (l.last ≡ last_cut l.fn.parts l.fn.line l.at) × (l.last ≤ l.at)
