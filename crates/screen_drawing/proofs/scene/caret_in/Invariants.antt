use Rattle.std.proofs.Common.{◌≢◌, ◌<◌, ◌+◌, ℕ}
use Rattle.screen_pictures.specs.declared.cell.Mark.TheVariants.{Caret}
use Rattle.screen_pictures.specs.Screen.{column_at}
use Rattle.screen_drawing.proofs.scene.caret_in.Given as goal

abbrev pub invariant-loop-x : goal.invariant-loop-x
invariant-loop-x l = (k : ℕ) → k < l.x → (column_at l.cells (l.fn.left + k)).mark ≢ Caret
