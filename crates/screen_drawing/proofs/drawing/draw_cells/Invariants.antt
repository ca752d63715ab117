use Rattle.std.proofs.Common.{◌-◌}
use Rattle.std.specs.List.{flat_map, range_with_len}
use Rattle.viewer_tracks.specs.declared.display.TheConstants.{COLUMNS}
use Rattle.byte_streams.proofs.Taking.{HasTaken}
use Rattle.screen_drawing.specs.Drawn.{drawn_cells, drawn_column}
use Rattle.screen_drawing.proofs.drawing.draw_cells.Given as goal

abbrev pub invariant-loop-x : goal.invariant-loop-x
invariant-loop-x g l = HasTaken (g.W.Write.contents l.fn.writer) (g.W.Write.contents l.writer)
    (drawn_cells l.y l.cells l.row) (flat_map (drawn_column l.y l.cells l.row) (range_with_len l.x (COLUMNS - l.x)))
