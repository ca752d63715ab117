-- What a grid that shows rows shows in each cell.
use Rattle.std.proofs.Common.{◌≡◌, ◌<◌, ◌+◌, ◌≤◌, ℕ, List, [], ◌∷◌, ap, ◌∙◌, arith, Bool, true, false, cond, length, get_or}
use Rattle.std.proofs.Common.{suc, zero, subst}
use Rattle.std.specs.Prelude.{nat_lt}
use Rattle.std.proofs.lemmas.Bool.Decides.{nat_tests}
use Rattle.std.proofs.lemmas.List.FromFn.{get_or-map-range_with_len, length-map-range_with_len}
use Rattle.screen_pictures.specs.Screen.{column_at, values}
use Rattle.screen_drawing.specs.declared.face.Face.{Face}
use Rattle.screen_drawing.specs.declared.scene.Scene.{Scene}
use Rattle.screen_drawing.specs.declared.pen.TheConstants.{WHITE}
use Rattle.screen_drawing.specs.Scene.{scene_row, scene_rows, height_of, letter_face, seen_cells, seen_face}
use Rattle.screen_drawing.specs.Scene.{seen_row, seen_letters, text_below}
use Rattle.screen_drawing.specs.Grid.{Grid}
use Rattle.screen_drawing.specs.Pen.{blank_face, face_of}
use Rattle.screen_drawing.specs.Shows.{ShowsRows, ShowsFrom}

-- the cell at an index of a row that is shown
read : (row column k u : ℕ) (fs : List Face) (g : Grid) (d : Face) → ShowsFrom row column fs g → k < length fs
    → u ≡ column + k → g.cells u row ≡ get_or fs k d
read row column k u [] g d s h e = absurd (omega (arith, h))
read row column zero u (f ∷ fs) g d s h e =
    let here : u ≡ column = omega (arith, e) in
    ap (λ c. g.cells c row) here ∙ s.0
read row column (suc k) u (f ∷ fs) g d s h e =
    read row (column + 1) k u fs g d s.1 (omega (arith, h)) (omega (arith, e))

-- and of a row of values
module _ {X : Type 0} where
  at : (n : ℕ) (f : ℕ → X) (k : ℕ) (d : X) → k < n → get_or (values n f) k d ≡ f k
  unfolding values
  at n f k d h = get_or-map-range_with_len f 0 n k k d h (omega arith)

  long : (n : ℕ) (f : ℕ → X) → length (values n f) ≡ n
  unfolding values
  long n f = length-map-range_with_len f 0 n

read_value : (width row x : ℕ) (f : ℕ → Face) (g : Grid) → ShowsFrom row 1 (values width f) g → x < width
    → g.cells (x + 1) row ≡ f x
read_value width row x f g s h =
    let inside : x < length (values width f) = omega (arith, h, long width f) in
    read row 1 x (x + 1) (values width f) g (blank_face WHITE) s inside (omega arith) ∙ at width f x (blank_face WHITE) h

scene_row_shown : (scene : Scene) (g : Grid) (y : ℕ) → ShowsRows (scene_rows scene) g → y < height_of scene
    → ShowsFrom (y + 1) 1 (scene_row scene y) g
unfolding scene_rows
scene_row_shown scene g y s h =
    let inside : y < length (values (height_of scene) (scene_row scene)) =
    omega (arith, h, long (height_of scene) (scene_row scene)) in
    subst (λ l. ShowsFrom (y + 1) 1 l g) (at (height_of scene) (scene_row scene) y [] h) (s y inside)

pub above : (y n : ℕ) → y < n → nat_lt y n ≡ true
above y n h = grind (arith, nat_tests)

pub not_above : (y n : ℕ) → n ≤ y → nat_lt y n ≡ false
not_above y n h = grind (arith, nat_tests)

pub seen : (scene : Scene) (y : ℕ) → y < scene.rows → scene_row scene y ≡ seen_cells scene (seen_row scene y)
unfolding scene_row
seen scene y h =
    ap (λ b. cond b (seen_cells scene (seen_row scene y)) (seen_letters scene (text_below scene.below))) (above y scene.rows h)

pub told_below : (scene : Scene) (y : ℕ) → scene.rows ≤ y → scene_row scene y ≡ seen_letters scene (text_below scene.below)
unfolding scene_row
told_below scene y h =
    ap (λ b. cond b (seen_cells scene (seen_row scene y)) (seen_letters scene (text_below scene.below)))
    (not_above y scene.rows h)

face_shown : (scene : Scene) (g : Grid) (x y : ℕ) → ShowsRows (scene_rows scene) g → x < scene.width → y < scene.rows
    → g.cells (x + 1) (y + 1) ≡ seen_face scene (seen_row scene y) x
face_shown scene g x y s inside within =
    let up : y < height_of scene = omega arith in
    read_value scene.width (y + 1) x (seen_face scene (seen_row scene y)) g
    (subst (λ l. ShowsFrom (y + 1) 1 l g) (seen scene y within) (scene_row_shown scene g y s up)) inside

abbrev chosen : Scene → ℕ → ℕ → Bool → Face
chosen scene x y in_sight =
    cond in_sight (face_of (scene.left + x) (column_at (seen_row scene y) (scene.left + x))) (blank_face WHITE)

pub cell_shown : (scene : Scene) (g : Grid) (x y : ℕ) → ShowsRows (scene_rows scene) g → x < scene.width
    → x < scene.columns → y < scene.rows
    → g.cells (x + 1) (y + 1) ≡ face_of (scene.left + x) (column_at (seen_row scene y) (scene.left + x))
cell_shown scene g x y s inside here within =
    face_shown scene g x y s inside within ∙ ap (chosen scene x y) (above x scene.columns here)

pub nothing_beside : (scene : Scene) (g : Grid) (x y : ℕ) → ShowsRows (scene_rows scene) g → x < scene.width
    → scene.columns ≤ x → y < scene.rows → g.cells (x + 1) (y + 1) ≡ blank_face WHITE
nothing_beside scene g x y s inside past within =
    face_shown scene g x y s inside within ∙ ap (chosen scene x y) (not_above x scene.columns past)

pub letter_shown : (scene : Scene) (g : Grid) (x : ℕ) → ShowsRows (scene_rows scene) g → x < scene.width
    → scene.rows < height_of scene → g.cells (x + 1) (scene.rows + 1) ≡ letter_face (text_below scene.below) x
letter_shown scene g x s inside line =
    read_value scene.width (scene.rows + 1) x (letter_face (text_below scene.below)) g
    (subst (λ l. ShowsFrom (scene.rows + 1) 1 l g) (told_below scene scene.rows (omega arith))
    (scene_row_shown scene g scene.rows s line)) inside
