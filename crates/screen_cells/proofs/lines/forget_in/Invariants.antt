use Rattle.std.proofs.Common.{ℕ}
use Rattle.piece_ring.specs.Text.{Text as AText}
use Rattle.screen_cells.specs.Lines.{HasSameRows}
use Rattle.screen_cells.proofs.Keeping.{SameBut, AreForgotten}
use Rattle.screen_cells.proofs.lines.forget_in.Given as goal

abbrev pub invariant-loop-at : goal.invariant-loop-at
invariant-loop-at l = (before after : ℕ → AText ℕ) → SameBut before after l.number
    → HasSameRows (before l.number) (after l.number) l.org l.row
    → AreForgotten before after l.fn.slots.items l.slots.items l.at
