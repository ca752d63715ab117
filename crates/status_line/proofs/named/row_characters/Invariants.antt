use Rattle.std.proofs.Common.{◌≡◌, map, take}
use Rattle.status_line.proofs.named.row_characters.Given as goal

-- those of the cells so far
abbrev pub invariant-loop-cell : goal.invariant-loop-cell
invariant-loop-cell l = l.bytes.items ≡ map (λ cell. cell.ch) (take l.cell-index l.cells)
