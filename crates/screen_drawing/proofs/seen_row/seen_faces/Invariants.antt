use Rattle.std.proofs.Common.{◌≡◌}
use Rattle.screen_pictures.specs.Screen.{values}
use Rattle.screen_drawing.specs.Seen.{face_seen}
use Rattle.screen_drawing.proofs.seen_row.seen_faces.Given as goal

abbrev pub invariant-loop-x : goal.invariant-loop-x
invariant-loop-x l = l.row ≡ values l.x (face_seen l.left l.columns l.cells)
