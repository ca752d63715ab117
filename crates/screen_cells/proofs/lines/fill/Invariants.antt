use Rattle.std.proofs.Common.{ℕ, ◌-◌, length}
use Rattle.std.specs.Prelude.{All}
use Rattle.piece_ring.specs.Text.{Text as AText}
use Rattle.viewer_tracks.specs.declared.display.TheConstants.{ROWS}
use Rattle.screen_cells.specs.Lines.{IsSlotOf}
use Rattle.screen_cells.proofs.lines.fill.Given as goal

abbrev pub invariant-loop-slots : goal.invariant-loop-slots
invariant-loop-slots l = (texts : ℕ → AText ℕ) → All (IsSlotOf texts) l.fn.slots.items
    → All (IsSlotOf texts) l.slots.items

abbrev pub decreases-loop-slots : goal.decreases-loop-slots
decreases-loop-slots l = ROWS - length l.slots.items
