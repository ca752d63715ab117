-- A terminal: a grid of cells that does operations.
use Rattle.std.specs.Prelude.{ℕ, ◌+◌, Bool, true, false, ◌&&◌, ◌==◌, nat_le, nat_lt, if◌then◌else◌, List, [], ◌∷◌}
use Rattle.std.specs.Prelude.{min}
use Rattle.screen_drawing.specs.declared.pen.Pen.{Pen}
use Rattle.screen_drawing.specs.declared.face.Face.{Face}
use Rattle.screen_drawing.specs.declared.operation.Operation.{Operation}
use Rattle.screen_drawing.specs.declared.operation.Operation.TheVariants.{Hold, Release, Hide, Show, Ring, Go}
use Rattle.screen_drawing.specs.declared.operation.Operation.TheVariants.{Take, Put}
use Rattle.screen_drawing.specs.declared.operation.Operation.TheVariants.{Clear, Wipe}
use Rattle.screen_drawing.specs.Pen.{blank_face}

-- how many columns and rows it has, what each cell shows by its column and row, both from 1, where the cursor stands,
-- whether it is to be seen, and the pen
pub record Grid : Type 0 where
  pub width : ℕ
  pub height : ℕ
  pub cells : ℕ → ℕ → Face
  pub column : ℕ
  pub row : ℕ
  pub has_cursor : Bool
  pub pen : Pen

abbrev pub drawn_face : ℕ → Pen → Face
drawn_face byte pen = record { byte = byte; pen = pen }

-- what is known of a cell after a byte past the right edge, which a terminal may put into the next row or over another
abbrev pub lost : Pen → Face
lost pen = drawn_face 0 pen

-- the cells after a byte was put at the cursor
abbrev pub cells_after_put : ℕ → Grid → ℕ → ℕ → Face
cells_after_put byte g x y =
    if nat_lt g.width g.column then lost g.pen else
    (if (x == g.column) && (y == g.row) then drawn_face byte g.pen else g.cells x y)

-- the cells after those from the cursor to the right edge were cleared
abbrev pub cells_cleared : Grid → ℕ → ℕ → Face
cells_cleared g x y =
    if nat_lt g.width g.column then lost g.pen else
    (if nat_le g.column x && (y == g.row) then blank_face g.pen.paper else g.cells x y)

abbrev pub act : Operation → Grid → Grid
act Hold g = g
act Release g = g
act Hide g = record g { has_cursor = false }
act Show g = record g { has_cursor = true }
act Ring g = g
act (Go column row) g = record g { column = min column g.width; row = min row g.height }
act (Take pen) g = record g { pen = pen }
act (Put byte) g = record g { cells = cells_after_put byte g; column = g.column + 1 }
act Clear g = record g { cells = cells_cleared g }
act Wipe g = record g { cells = λ x y. blank_face g.pen.paper }

abbrev pub done : List Operation → Grid → Grid
done [] g = g
done (o ∷ os) g = done os (act o g)
