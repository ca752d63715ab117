-- What turns a row of a terminal into another: only cells that changed are sent, and blank ones at the end are cleared.
use Rattle.std.specs.Prelude.{ℕ, ◌+◌, Bool, ◌==◌, if◌then◌else◌, List, [], ◌∷◌, ◌++◌, Option, Some, None}
use Rattle.std.specs.List.{list_all}
use Rattle.screen_drawing.specs.declared.pen.Pen.{Pen}
use Rattle.screen_drawing.specs.declared.pen.TheConstants.{WHITE}
use Rattle.screen_drawing.specs.declared.face.Face.{Face}
use Rattle.screen_drawing.specs.declared.operation.Operation.{Operation}
use Rattle.screen_drawing.specs.declared.operation.Operation.TheVariants.{Go, Take, Put, Clear}
use Rattle.screen_drawing.specs.declared.changes.Brush.{Brush}
use Rattle.screen_drawing.specs.Pen.{blank_face, plain_pen, same_face, same_pen}

-- what brings the cursor to a cell and the pen into its hand, by what is known of both
abbrev pub operations_to_reach : Option Brush → ℕ → ℕ → Pen → List Operation
operations_to_reach None row column pen = Go column row ∷ Take pen ∷ []
operations_to_reach (Some b) row column pen =
    (if b.column == column then [] else Go column row ∷ []) ++ (if same_pen b.pen pen then []
    else Take pen ∷ [])

abbrev pub brush_at : ℕ → Pen → Option Brush
brush_at column pen = Some (record { column = column; pen = pen })

abbrev pub is_blank_face : Face → Bool
is_blank_face face = same_face face (blank_face WHITE)

-- what changes a row from a column on
abbrev pub strokes : Option Brush → ℕ → ℕ → List Face → List Face → List Operation
strokes brush row column [] news = []
strokes brush row column (o ∷ os) [] = []
strokes brush row column (o ∷ os) (n ∷ ns) =
    if same_face o n then strokes brush row (column + 1) os ns
    else (if list_all is_blank_face (n ∷ ns)
    then operations_to_reach brush row column (plain_pen WHITE) ++ (Clear ∷ [])
    else operations_to_reach brush row column n.pen
    ++ (Put n.byte ∷ strokes (brush_at (column + 1) n.pen) row (column + 1) os ns))

unfoldable pub changes : ℕ → List Face → List Face → List Operation
changes row olds news = strokes None row 1 olds news
