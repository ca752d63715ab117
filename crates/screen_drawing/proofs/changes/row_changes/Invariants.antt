use Rattle.std.proofs.Common.{◌≡◌, ◌++◌, ◌*◌, ◌≤◌}
use Rattle.arrayvec.specs.ArrayVec.{array_vec_len}
use Rattle.screen_drawing.specs.Changes.{changes}
use Rattle.screen_drawing.proofs.Steps.{left}
use Rattle.screen_drawing.proofs.changes.row_changes.Given as goal

abbrev pub invariant-loop-x : goal.invariant-loop-x
invariant-loop-x l = record {
  done : l.operations.items ++ left l.brush l.row l.x l.olds l.news ≡ changes l.row l.olds l.news;
  few : array_vec_len l.operations ≤ 3 * l.x;
}
