use Rattle.std.proofs.Common.{◌≡◌, ◌≤◌}
use Rattle.screen_reading.specs.Along.{begin_of}
use Rattle.screen_reading.proofs.along.begin_of.Given as goal

abbrev pub invariant-loop-first : goal.invariant-loop-first
invariant-loop-first l = record {
  within : l.first ≤ l.x;
  same : begin_of l.kind l.row l.x ≡ begin_of l.kind l.row l.first;
}

abbrev pub decreases-loop-first : goal.decreases-loop-first
decreases-loop-first l = l.first
