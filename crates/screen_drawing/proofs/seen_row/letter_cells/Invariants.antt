use Rattle.std.proofs.Common.{◌≡◌, ◌<◌, ℕ, length}
use Rattle.screen_pictures.specs.Screen.{column_at}
use Rattle.screen_drawing.specs.Seen.{letter_cell}
use Rattle.screen_drawing.proofs.seen_row.letter_cells.Given as goal

abbrev pub invariant-loop-x : goal.invariant-loop-x
invariant-loop-x l = record {
  long : length l.cells ≡ 80;
  written : (k : ℕ) → k < l.x → column_at l.cells k ≡ letter_cell l.text k;
}
