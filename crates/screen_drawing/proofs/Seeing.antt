-- Rows of a terminal as they are kept: cells of which some are seen.
use Rattle.std.proofs.Common.{◌≡◌, ◌<◌, ◌≤◌, ◌+◌, ℕ, List, arith, cond, ap, sym, ◌∙◌, length, get_or, set, drop, [], ◌∷◌, ◌++◌, suc}
use Rattle.std.proofs.Common.{append_assoc, append-nil, refl, replicate, ◌-◌}
use Rattle.std.proofs.Math.Seq.{drop-cons}
use Rattle.std.proofs.Math.ListN.{drop_of_length-le}
use Rattle.std.proofs.lemmas.List.{get_or-replicate, length-append, length-drop, length-replicate, set_at, get_or-append_right}
use Rattle.std.proofs.lemmas.List.FromFn.{fill_by_all, get_or-map-range_with_len}
use Rattle.viewer_tracks.specs.declared.display.TheConstants.{COLUMNS}
use Rattle.screen_pictures.specs.declared.cell.Cell.{Cell}
use Rattle.screen_pictures.specs.Picture.{filler}
use Rattle.screen_pictures.specs.Screen.{column_at, values}
use Rattle.screen_drawing.specs.declared.face.Face.{Face}
use Rattle.screen_drawing.specs.declared.pen.TheConstants.{WHITE}
use Rattle.screen_drawing.specs.declared.scene.Scene.{Scene}
use Rattle.screen_drawing.specs.Pen.{blank_face, cell_byte, face_of, pen_of}
use Rattle.screen_drawing.specs.Scene.{letter_face, scene_row, seen_row, text_below}
use Rattle.screen_drawing.specs.Seen.{cells_seen, face_seen, letter_cell}
use Rattle.screen_drawing.proofs.Leading.{values_long, values_more}
use Rattle.screen_drawing.proofs.Reading.{above, not_above, seen, told_below}

module _ {X : Type 0} where
  pub values_is : (n : ℕ) (f : ℕ → X) (xs : List X) (d : X) → length xs ≡ n
      → ((k : ℕ) → k < n → get_or xs k d ≡ f k) → xs ≡ values n f
  unfolding values
  values_is n f xs d long each = fill_by_all f xs n d long each

  value_at : (n : ℕ) (f : ℕ → X) (k : ℕ) (d : X) → k < n → get_or (values n f) k d ≡ f k
  unfolding values
  value_at n f k d h = get_or-map-range_with_len f 0 n k k d h (omega arith)

  values_same : (n : ℕ) (f g : ℕ → X) → ((k : ℕ) → k < n → f k ≡ g k) → values n f ≡ values n g
  values_same n f g same = values_is n g (values n f) (f 0) (values_long f n) (λ k h. value_at n f k (f 0) h ∙ same k h)

  -- a list of which the first n elements were changed, in place, and one more
  module _ (n : ℕ) (f : ℕ → X) (olds news : List X) (done : news ≡ values n f ++ drop n olds) where
    pub done_long : n ≤ length olds → length news ≡ length olds
    done_long within =
        let front : length (values n f) ≡ n = values_long f n in
        ap length done ∙ length-append (values n f) (drop n olds)
        ∙ (let whole : length (values n f) + length (drop n olds) ≡ length olds = omega (arith, front, length-drop n olds, within)
        in whole)

    module _ (d : X) (within : n < length olds) where
      split : news ≡ values n f ++ get_or olds n d ∷ drop (n + 1) olds
      split =
          let next : suc n ≡ n + 1 = omega arith in
          done ∙ ap (λ l. values n f ++ l) (drop-cons olds n d within ∙ (λ i. get_or olds n d ∷ drop (next i) olds))

      pub old_here : get_or news n d ≡ get_or olds n d
      old_here =
          ap (λ l. get_or l n d) split
          ∙ get_or-append_right (values n f) (get_or olds n d ∷ drop (n + 1) olds) n n d (values_long f n) (omega arith)
          ∙ (let none : n - n ≡ 0 = omega arith in
          ap (λ k. get_or (get_or olds n d ∷ drop (n + 1) olds) k d) none)

      pub done_more : (x : X) → x ≡ f n → set news n x ≡ values (n + 1) f ++ drop (n + 1) olds
      done_more x is =
          ap (λ l. set l n x) split
          ∙ set_at (values n f) (get_or olds n d) (drop (n + 1) olds) x n (values_long f n)
          ∙ sym (append_assoc (values n f) (x ∷ []) (drop (n + 1) olds))
          ∙ (λ i. (values n f ++ is i ∷ []) ++ drop (n + 1) olds)
          ∙ ap (λ l. l ++ drop (n + 1) olds) (sym (values_more f n))

    pub done_all : length olds ≡ n → news ≡ values n f
    done_all whole =
        let past : length olds ≤ n = omega (arith, whole) in
        done ∙ ap (λ l. values n f ++ l) (drop_of_length-le olds past) ∙ append-nil (values n f)

pub seen_long : (left columns width : ℕ) (cells : List Cell) → length (cells_seen left columns width cells) ≡ width
seen_long left columns width cells = values_long (face_seen left columns cells) width

-- a row that is kept by what it was made of is as wide, and is made of the same again
module _ (left columns width : ℕ) (cells : List Cell) (row : List Face) (is : cells_seen left columns width cells ≡ row) where
  pub kept_wide : width ≡ length row
  kept_wide = sym (seen_long left columns width cells) ∙ ap length is

  pub kept_same : (others : ℕ) (count : ℕ) (news : List Cell) → left ≡ others → columns ≡ count → cells ≡ news
      → row ≡ cells_seen others count (length row) news
  kept_same others count news same_left same_count same =
      sym is ∙ (λ i. cells_seen (same_left i) (same_count i) (kept_wide i) (same i))

-- where no column is in sight nothing is seen
pub none_seen : (width left : ℕ) (cells : List Cell) → replicate width (blank_face WHITE) ≡ cells_seen left 0 width cells
none_seen width left cells =
    let blank : Face = blank_face WHITE in
    values_is width (face_seen left 0 cells) (replicate width blank) blank (length-replicate width blank)
    (λ k below. get_or-replicate width k blank blank below
    ∙ sym (ap (λ b. cond b (face_of (left + k) (column_at cells (left + k))) blank) (not_above k 0 (omega arith))))

letter_seen : (text : List ℕ) (x : ℕ) → face_of x (letter_cell text x) ≡ letter_face text x
unfolding pen_of cell_byte
letter_seen text x = refl

letters_seen : (width : ℕ) (text : List ℕ) (cells : List Cell) → width ≤ COLUMNS → cells ≡ values COLUMNS (letter_cell text)
    → cells_seen 0 width width cells ≡ values width (letter_face text)
letters_seen width text cells narrow is = values_same width (face_seen 0 width cells) (letter_face text) (λ k below.
    let same : 0 + k ≡ k = omega arith in
    let inside : k < COLUMNS = omega (arith, below, narrow) in
    ap (λ b. cond b (face_of (0 + k) (column_at cells (0 + k))) (blank_face WHITE)) (above k width below)
    ∙ ap (λ n. face_of n (column_at cells n)) same
    ∙ ap (λ l. face_of k (column_at l k)) is
    ∙ ap (face_of k) (value_at COLUMNS (letter_cell text) k filler inside)
    ∙ letter_seen text k)

-- the rows of a scene
pub row_seen : (scene : Scene) (y width : ℕ) (cells : List Cell) → y < scene.rows → cells ≡ seen_row scene y
    → width ≡ scene.width → cells_seen scene.left scene.columns width cells ≡ scene_row scene y
row_seen scene y width cells within is wide =
    (λ i. cells_seen scene.left scene.columns (wide i) (is i)) ∙ sym (seen scene y within)

pub line_seen : (scene : Scene) (y width : ℕ) (text : List ℕ) (cells : List Cell) → scene.rows ≤ y → scene.width ≤ COLUMNS
    → text ≡ text_below scene.below → cells ≡ values COLUMNS (letter_cell text) → width ≡ scene.width
    → cells_seen 0 scene.width width cells ≡ scene_row scene y
line_seen scene y width text cells below narrow told is wide =
    ap (λ n. cells_seen 0 scene.width n cells) wide
    ∙ letters_seen scene.width text cells narrow is
    ∙ ap (λ t. values scene.width (letter_face t)) told
    ∙ sym (told_below scene y below)
