use Rattle.std.proofs.Common.{ℕ, rules}
use Rattle.std.proofs.lemmas.List.FromFn.{fill_by_all}
use Rattle.screen_pictures.specs.Screen.{column_at, values}
use Rattle.screen_drawing.specs.Pen.{blank_face, face_of}
use Rattle.screen_drawing.specs.declared.pen.TheConstants.{WHITE}
use Rattle.screen_drawing.proofs.scene.row_of_cells.Goals as goal

pub returns : goal.returns
unfolding values
returns c = fill_by_all (λ (x : ℕ). face_of x (column_at c.args.cells.now x)) c.loop-x.row 80 (blank_face WHITE)
    c.loop-x.invariant.long (search rules)
