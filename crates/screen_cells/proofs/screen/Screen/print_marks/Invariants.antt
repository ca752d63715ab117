use Rattle.std.specs.List.{flat_map}
use Rattle.std.specs.Prelude.{filter}
use Rattle.screen_pictures.specs.Screen.{row_at}
use Rattle.screen_pictures.specs.Printed.{mark_line, mark_lines, has_mark_line, down_from}
use Rattle.byte_streams.proofs.Taking.{HasTaken}
use Rattle.screen_cells.proofs.screen.Screen.print_marks.Given as goal

abbrev pub invariant-loop-y : goal.invariant-loop-y
invariant-loop-y g l = HasTaken (g.W.Write.contents l.fn.writer) (g.W.Write.contents l.writer) (mark_lines l.self)
    (flat_map (λ y. mark_line y (row_at l.self y)) (filter (λ y. has_mark_line (row_at l.self y)) (down_from l.y)))
