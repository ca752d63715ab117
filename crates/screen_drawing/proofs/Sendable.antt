-- What changes a row can be sent.
use Rattle.std.proofs.Common.{◌≡◌, ◌<◌, ◌+◌, ◌≤◌, ℕ, List, [], ◌∷◌, ◌++◌, arith, cond, length, Option}
use Rattle.std.proofs.Common.{Some, None, map, nat_eq}
use Rattle.std.specs.Prelude.{nat_lt}
use Rattle.std.specs.List.{list_all, range_with_len}
use Rattle.std.proofs.lemmas.Bool.Decides.{nat_tests}
use Rattle.std.proofs.lemmas.List.FromFn.{length-map-range_with_len}
use Rattle.screen_pictures.specs.declared.cell.Cell.{Cell}
use Rattle.screen_pictures.specs.Bytes.{greater_than}
use Rattle.screen_pictures.specs.Screen.{column_at, values}
use Rattle.screen_drawing.specs.declared.pen.Pen.{Pen}
use Rattle.screen_drawing.specs.declared.pen.TheConstants.{WHITE}
use Rattle.screen_drawing.specs.declared.face.Face.{Face}
use Rattle.screen_drawing.specs.declared.scene.Scene.{Scene}
use Rattle.screen_drawing.specs.declared.operation.Operation.{Operation}
use Rattle.screen_drawing.specs.declared.operation.Operation.TheVariants.{Go, Take, Put, Clear}
use Rattle.screen_drawing.specs.declared.changes.Brush.{Brush}
use Rattle.screen_drawing.specs.Changes.{brush_at, changes, is_blank_face, operations_to_reach, strokes}
use Rattle.screen_drawing.specs.Scene.{scene_row, letter_face, seen_cells, seen_face, seen_row, seen_letters, text_below}
use Rattle.screen_drawing.specs.Pen.{blank_face, cell_byte, face_of, plain_pen, same_face, same_pen, sent_byte}
use Rattle.screen_drawing.specs.Spelling.{AreSendable}
use Rattle.screen_drawing.proofs.Showing.{by_cases}

abbrev pub IsPrintable : Face → Type 0
IsPrintable f = (32 ≤ f.byte) × (f.byte < 127)

abbrev pub ArePrintable : List Face → Type 0
ArePrintable [] = Unit {0}
ArePrintable (f ∷ fs) = IsPrintable f × ArePrintable fs

at_least : (b : ℕ) → 32 ≤ sent_byte b
unfolding sent_byte
at_least b = grind (arith, nat_tests)

at_most : (b : ℕ) → sent_byte b < 127
unfolding sent_byte
at_most b = grind (arith, nat_tests)

cell_least : (cell : Cell) → 32 ≤ cell_byte cell
unfolding cell_byte
cell_least cell = by_cases (λ b. 32 ≤ cond b greater_than (sent_byte cell.ch)) cell.goes_on (λ _. omega arith)
    (λ _. at_least cell.ch)

cell_most : (cell : Cell) → cell_byte cell < 127
unfolding cell_byte
cell_most cell = by_cases (λ b. cond b greater_than (sent_byte cell.ch) < 127) cell.goes_on (λ _. omega arith)
    (λ _. at_most cell.ch)

printable_map : (f : ℕ → Face) (ks : List ℕ) → ((k : ℕ) → IsPrintable (f k)) → ArePrintable (map f ks)
printable_map f [] each = tt
printable_map f (k ∷ ks) each = (each k, printable_map f ks each)

printable_values : (f : ℕ → Face) (n : ℕ) → ((k : ℕ) → IsPrintable (f k)) → ArePrintable (values n f)
unfolding values
printable_values f n each = printable_map f (range_with_len 0 n) each

values_long : (f : ℕ → Face) (n : ℕ) → length (values n f) ≡ n
unfolding values
values_long f n = length-map-range_with_len f 0 n

face_printable : (scene : Scene) (cells : List Cell) (x : ℕ) → IsPrintable (seen_face scene cells x)
face_printable scene cells x =
    by_cases (λ b. IsPrintable (cond b (face_of (scene.left + x) (column_at cells (scene.left + x))) (blank_face WHITE)))
    (nat_lt x scene.columns) (λ _. (cell_least _, cell_most _)) (λ _. (omega arith, omega arith))

pub row_printable : (scene : Scene) (y : ℕ) → ArePrintable (scene_row scene y)
unfolding scene_row
row_printable scene y =
    by_cases (λ b. ArePrintable (cond b (seen_cells scene (seen_row scene y)) (seen_letters scene (text_below scene.below))))
    (nat_lt y scene.rows)
    (λ _. printable_values (seen_face scene (seen_row scene y)) scene.width (face_printable scene (seen_row scene y)))
    (λ _. printable_values (letter_face (text_below scene.below)) scene.width (λ x. (at_least _, at_most _)))

pub row_long : (scene : Scene) (y : ℕ) → length (scene_row scene y) ≡ scene.width
unfolding scene_row
row_long scene y =
    by_cases (λ b. length (cond b (seen_cells scene (seen_row scene y)) (seen_letters scene (text_below scene.below)))
    ≡ scene.width)
    (nat_lt y scene.rows)
    (λ _. values_long (seen_face scene (seen_row scene y)) scene.width)
    (λ _. values_long (letter_face (text_below scene.below)) scene.width)

pub both_sendable : (a b : List Operation) → AreSendable a → AreSendable b → AreSendable (a ++ b)
both_sendable [] b first second = second
both_sendable (o ∷ os) b first second = (first.0, both_sendable os b first.1 second)

reach_sendable : (brush : Option Brush) (row column : ℕ) (pen : Pen) → row < 256 → column < 256
    → AreSendable (operations_to_reach brush row column pen)
reach_sendable None row column pen low left = ((left, low), (tt, tt))
reach_sendable (Some b) row column pen low left =
    both_sendable (cond (nat_eq b.column column) [] (Go column row ∷ [])) (cond (same_pen b.pen pen) [] (Take pen ∷ []))
    (by_cases (λ t. AreSendable (cond t [] (Go column row ∷ []))) (nat_eq b.column column) (λ _. tt)
    (λ _. ((left, low), tt)))
    (by_cases (λ t. AreSendable (cond t [] (Take pen ∷ []))) (same_pen b.pen pen) (λ _. tt) (λ _. (tt, tt)))

strokes_sendable : (brush : Option Brush) (row column : ℕ) (olds news : List Face) → row < 256
    → column + length news ≤ 256 → ArePrintable news → AreSendable (strokes brush row column olds news)
strokes_sendable brush row column [] news low fits all = tt
strokes_sendable brush row column (o ∷ os) [] low fits all = tt
strokes_sendable brush row column (o ∷ os) (n ∷ ns) low fits all =
    let left : column < 256 = omega arith in
    let less : column + 1 + length ns ≤ 256 = omega arith in
    let cleared : List Operation = operations_to_reach brush row column (plain_pen WHITE) ++ Clear ∷ [] in
    let rest : List Operation = strokes (brush_at (column + 1) n.pen) row (column + 1) os ns in
    let stroke : List Operation = operations_to_reach brush row column n.pen ++ Put n.byte ∷ rest in
    by_cases (λ b. AreSendable (cond b (strokes brush row (column + 1) os ns)
    (cond (list_all is_blank_face (n ∷ ns)) cleared stroke))) (same_face o n)
    (λ _. strokes_sendable brush row (column + 1) os ns low less all.1)
    (λ _. by_cases (λ b. AreSendable (cond b cleared stroke)) (list_all is_blank_face (n ∷ ns))
    (λ _. both_sendable (operations_to_reach brush row column (plain_pen WHITE)) (Clear ∷ [])
    (reach_sendable brush row column (plain_pen WHITE) low left) (tt, tt))
    (λ _. both_sendable (operations_to_reach brush row column n.pen) (Put n.byte ∷ rest)
    (reach_sendable brush row column n.pen low left)
    (all.0, strokes_sendable (brush_at (column + 1) n.pen) row (column + 1) os ns low less all.1)))

pub changes_sendable : (row : ℕ) (olds news : List Face) → row < 256 → length news ≤ 80 → ArePrintable news
    → AreSendable (changes row olds news)
unfolding changes
changes_sendable row olds news low short all = strokes_sendable None row 1 olds news low (omega arith) all
