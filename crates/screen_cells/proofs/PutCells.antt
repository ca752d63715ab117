-- What is put into the cells of a row.
use Rattle.std.proofs.Common.{◌≡◌, ℕ, ◌+◌, ◌-◌, ◌<◌, ◌≤◌, ◌==◌, true, false, ◌++◌, List, length, get_or, set, Option, Some}
use Rattle.std.proofs.Common.{None, ap, sym, ◌∙◌, arith, inl, inr}
use Rattle.std.specs.Prelude.{if◌then◌else◌, nat_lt, slice_get}
use Rattle.std.proofs.lemmas.Bool.{cases_eq}
use Rattle.std.proofs.lemmas.Bool.Decides.{nat_tests}
use Rattle.std.proofs.lemmas.List.{length-set, get_or-set_same, get_or-set_other}
use Rattle.text_frames.specs.Row.{ShownCell}
use Rattle.viewer_tracks.specs.declared.display.TheConstants.{COLUMNS, SYSTEM_LEFT}
use Rattle.screen_pictures.specs.declared.cell.Cell.{Cell}
use Rattle.screen_pictures.specs.declared.cell.Mark.TheVariants.{Text as InText}
use Rattle.screen_pictures.specs.Bytes.{space}
use Rattle.screen_pictures.specs.Mark.{mark_of}
use Rattle.screen_pictures.specs.Picture.{filler, bar_cell, line_cell, text_cell, cell_with, is_at, is_edge, is_selected}
use Rattle.screen_pictures.specs.Picture.{with_edge, with_marker}
use Rattle.screen_pictures.specs.Screen.{values, column_at}
use Rattle.screen_cells.specs.declared.strip.Strip.{Strip}
use Rattle.screen_cells.specs.declared.strip.Strip.TheVariants.{Frame}
use Rattle.screen_cells.specs.declared.strip.FrameRow.{FrameRow}
use Rattle.screen_cells.specs.Shown.{strip_cell}
use Rattle.screen_cells.specs.Rows.{strips_cell}
use Rattle.screen_cells.proofs.Values.{values_is, values_same, values_join, value_at, length-values}

-- a row without the caret and without selected characters
pub plain_row : (n : ℕ) (line : List ShownCell) (f : FrameRow) → f.selection ≡ None
    → ((x : ℕ) → is_at f.caret x f.row ≡ false)
    → values n (λ x. cell_with space (slice_get line x) InText)
    ≡ values n (λ x. line_cell line f.caret f.selection x f.row)
plain_row n line f none apart = values_same n _ _ (λ x below. sym (λ i.
    cell_with space (slice_get line x)
    (mark_of false (apart x i) (is_selected (none i) (slice_get line x)) InText)))

-- the last of its cells
pub with_edge_put : (n : ℕ) (f : ℕ → Cell) (line : List ShownCell) (w : ℕ) (cells : List Cell) → cells ≡ values n f
    → values (length cells) (λ x. with_edge (is_edge w line x) (column_at cells x))
    ≡ values n (λ x. with_edge (is_edge w line x) (f x))
with_edge_put n f line w cells is =
    ap (λ m. values m (λ x. with_edge (is_edge w line x) (column_at cells x))) (ap length is ∙ length-values n f)
    ∙ values_same n _ _ (λ x below. ap (with_edge (is_edge w line x))
    (ap (λ r. column_at r x) is ∙ value_at n f x filler below))

-- no cell of a row is one beyond which its line goes on
pub no_edge : (cells : List Cell) (line : List ShownCell) (w n : ℕ) → length cells ≡ n
    → ((x : ℕ) → x < n → is_edge w line x ≡ false)
    → cells ≡ values n (λ x. with_edge (is_edge w line x) (column_at cells x))
no_edge cells line w n long none =
    values_is n _ cells filler long (λ k below. sym (ap (λ b. with_edge b (column_at cells k)) (none k below)))

-- the last of w cells is
pub edge_at : (cells : List Cell) (line : List ShownCell) (w n : ℕ) (cell : Cell) → length cells ≡ n
    → 0 < w → w ≤ n → w < length line → cell ≡ with_edge true (column_at cells (w - 1))
    → set cells (w - 1) cell ≡ values n (λ x. with_edge (is_edge w line x) (column_at cells x))
edge_at cells line w n cell long some inside more made =
    values_is n _ (set cells (w - 1) cell) filler (length-set cells (w - 1) cell ∙ long) (λ k below. elim (cases_eq k (w - 1)) [
      | inl here ↦
          let there : is_edge w line k ≡ true = grind (arith, nat_tests, here, some, more) in
          ap (λ i. get_or (set cells (w - 1) cell) i filler) here
          ∙ get_or-set_same cells (w - 1) cell filler (omega (arith, inside, some, long)) ∙ made
          ∙ ap (λ i. with_edge true (column_at cells i)) (sym here)
          ∙ sym (ap (λ b. with_edge b (column_at cells k)) there)
      | inr other ↦
          let apart : is_edge w line k ≡ false = grind (arith, nat_tests, other, some) in
          get_or-set_other cells (w - 1) k cell filler other
          ∙ sym (ap (λ b. with_edge b (column_at cells k)) apart)
    ])

-- the bar, and the cells beside it
pub bar_and_text : (n m : ℕ) (line : List ShownCell) (f : FrameRow) → m + 1 ≡ n
    → values 1 (λ x. bar_cell) ++ values m (λ x. text_cell f.columns line f.caret f.selection x f.row)
    ≡ values n (strip_cell (Frame f) line)
bar_and_text n m line f whole =
    values_join 1 m n _ _ _ (let e : 1 + m ≡ n = omega (arith, whole) in e)
    (λ k below.
    let first : (k == 0) ≡ true = grind (arith, nat_tests) in
    sym (ap (λ b. if b then bar_cell else text_cell f.columns line f.caret f.selection (k - 1) f.row) first))
    (λ k below.
    let later : ((1 + k) == 0) ≡ false = grind (arith, nat_tests) in
    let back : (1 + k) - 1 ≡ k = omega arith in
    sym (ap (λ b. if b then bar_cell else text_cell f.columns line f.caret f.selection ((1 + k) - 1) f.row) later
    ∙ ap (λ c. text_cell f.columns line f.caret f.selection c f.row) back))

-- the cells of both tracks
pub both_put : (user : Strip) (line : List ShownCell) (system : Strip) (other : List ShownCell)
    → values SYSTEM_LEFT (strip_cell user line) ++ values (COLUMNS - SYSTEM_LEFT) (strip_cell system other)
    ≡ values COLUMNS (λ x. if nat_lt x SYSTEM_LEFT then strip_cell user line x
    else strip_cell system other (x - SYSTEM_LEFT))
both_put user line system other =
    values_join SYSTEM_LEFT (COLUMNS - SYSTEM_LEFT) COLUMNS _ _ _
    (let e : SYSTEM_LEFT + (COLUMNS - SYSTEM_LEFT) ≡ COLUMNS
    = omega arith in e)
    (λ k below.
    let left : nat_lt k SYSTEM_LEFT ≡ true = grind (arith, nat_tests) in
    sym (ap (λ b. if b then strip_cell user line k else strip_cell system other (k - SYSTEM_LEFT)) left))
    (λ k below.
    let right : nat_lt (SYSTEM_LEFT + k) SYSTEM_LEFT ≡ false = grind (arith, nat_tests) in
    let back : (SYSTEM_LEFT + k) - SYSTEM_LEFT ≡ k = omega arith in
    sym (ap (λ b. if b then strip_cell user line (SYSTEM_LEFT + k)
    else strip_cell system other ((SYSTEM_LEFT + k) - SYSTEM_LEFT))
    right
    ∙ ap (strip_cell system other) back))

-- with the marker
pub with_marker_put : (user : Strip) (line : List ShownCell) (system : Strip) (other : List ShownCell)
    (marker : Option (ℕ × ℕ)) (y : ℕ) (row : List Cell)
    → row ≡ values COLUMNS (λ x. if nat_lt x SYSTEM_LEFT then strip_cell user line x
    else strip_cell system other (x - SYSTEM_LEFT))
    → values COLUMNS (λ x. with_marker (is_at marker x y) (column_at row x))
    ≡ values COLUMNS (strips_cell user line system other marker y)
with_marker_put user line system other marker y row is =
    values_same COLUMNS _ _ (λ x below. ap (with_marker (is_at marker x y))
    (ap (λ r. column_at r x) is
    ∙ value_at COLUMNS (λ k. if nat_lt k SYSTEM_LEFT then strip_cell user line k
    else strip_cell system other (k - SYSTEM_LEFT))
    x filler below))

-- no marker in a row
pub unmarked : (row : List Cell) (marker : Option (ℕ × ℕ)) (y : ℕ) → length row ≡ COLUMNS
    → ((x : ℕ) → x < COLUMNS → is_at marker x y ≡ false)
    → row ≡ values COLUMNS (λ x. with_marker (is_at marker x y) (column_at row x))
unmarked row marker y long none =
    values_is COLUMNS _ row filler long (λ k below. sym (ap (λ b. with_marker b (column_at row k)) (none k below)))

-- the marker at a column of a row
pub marked_at : (row : List Cell) (x y : ℕ) (cell : Cell) → length row ≡ COLUMNS → x < COLUMNS
    → cell ≡ with_marker true (column_at row x)
    → set row x cell ≡ values COLUMNS (λ k. with_marker (is_at (Some (x, y)) k y) (column_at row k))
marked_at row x y cell long inside made =
    values_is COLUMNS _ (set row x cell) filler (length-set row x cell ∙ long) (λ k below. elim (cases_eq k x) [
      | inl here ↦
          let there : is_at (Some (x, y)) k y ≡ true = grind (arith, nat_tests, here) in
          ap (λ i. get_or (set row x cell) i filler) here
          ∙ get_or-set_same row x cell filler (omega (arith, inside, long)) ∙ made
          ∙ ap (λ i. with_marker true (column_at row i)) (sym here)
          ∙ sym (ap (λ b. with_marker b (column_at row k)) there)
      | inr other ↦
          let apart : is_at (Some (x, y)) k y ≡ false = grind (arith, nat_tests, other) in
          get_or-set_other row x k cell filler other
          ∙ sym (ap (λ b. with_marker b (column_at row k)) apart)
    ])
