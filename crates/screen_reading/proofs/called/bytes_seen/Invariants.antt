use Rattle.std.proofs.Common.{◌≡◌, map, take}
use Rattle.screen_reading.proofs.called.bytes_seen.Given as goal

-- those of the cells so far
abbrev pub invariant-loop-cell : goal.invariant-loop-cell
invariant-loop-cell l = l.bytes.items ≡ map (λ cell. cell.ch) (take l.cell-index l.cells)
