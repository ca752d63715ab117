use Rattle.std.proofs.Common.{◌-◌}
use Rattle.std.specs.List.{flat_map, range_with_len}
use Rattle.viewer_tracks.specs.declared.display.TheConstants.{ROWS}
use Rattle.byte_streams.proofs.Taking.{HasTaken}
use Rattle.screen_drawing.specs.Drawn.{drawn_row, drawn_rows}
use Rattle.screen_drawing.proofs.drawing.draw_rows.Given as goal

abbrev pub invariant-loop-y : goal.invariant-loop-y
invariant-loop-y g l = HasTaken (g.W.Write.contents l.fn.writer) (g.W.Write.contents l.writer) (drawn_rows l.screen)
    (flat_map (drawn_row l.screen) (range_with_len l.y (ROWS - l.y)))
