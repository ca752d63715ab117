use Rattle.screen_cells.proofs.Trimming.{IsBlankFrom}
use Rattle.screen_cells.proofs.line.without_trailing.Given as goal

abbrev pub invariant-loop-len : goal.invariant-loop-len
invariant-loop-len l = IsBlankFrom l.blank l.bytes l.len

abbrev pub decreases-loop-len : goal.decreases-loop-len
decreases-loop-len l = l.len
