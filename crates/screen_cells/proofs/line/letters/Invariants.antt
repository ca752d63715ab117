use Rattle.std.proofs.Common.{◌≡◌, take}
use Rattle.std.specs.Prelude.{map}
use Rattle.screen_pictures.specs.Mark.{letter}
use Rattle.screen_cells.proofs.line.letters.Given as goal

abbrev pub invariant-loop-cell : goal.invariant-loop-cell
invariant-loop-cell l = l.bytes.items ≡ map (λ c. letter c.mark) (take l.cell-index l.row)
