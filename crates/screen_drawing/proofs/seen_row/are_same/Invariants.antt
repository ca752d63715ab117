use Rattle.std.proofs.Common.{◌≡◌, ◌<◌, ℕ}
use Rattle.screen_pictures.specs.Screen.{column_at}
use Rattle.screen_drawing.proofs.seen_row.are_same.Given as goal

abbrev pub invariant-loop-x : goal.invariant-loop-x
invariant-loop-x l = (k : ℕ) → k < l.x → column_at l.olds k ≡ column_at l.news k
