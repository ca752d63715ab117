use Rattle.std.specs.List.{flat_map}
use Rattle.screen_pictures.specs.Screen.{row_at}
use Rattle.screen_pictures.specs.Printed.{character_line, character_lines, down_from}
use Rattle.byte_streams.proofs.Taking.{HasTaken}
use Rattle.screen_cells.proofs.screen.Screen.print_characters.Given as goal

abbrev pub invariant-loop-y : goal.invariant-loop-y
invariant-loop-y g l = HasTaken (g.W.Write.contents l.fn.writer) (g.W.Write.contents l.writer) (character_lines l.self)
    (flat_map (λ y. character_line y (row_at l.self y)) (down_from l.y))
