-- Rows of a text that stay while the characters before a position stay.
use Rattle.std.specs.Prelude.{◌≡◌, ◌⊎◌, ℕ, zero, suc, ◌+◌, ◌-◌, ◌<◌, ◌≤◌, max, Bool, true, false, ◌==◌, ◌||◌, nat_lt, cond}
use Rattle.std.specs.Prelude.{List, [], ◌∷◌, ◌++◌, length, take, drop, map, fold, count_by, slice_get}
use Rattle.std.specs.List.{flat_map, range_with_len}
use Rattle.std.proofs.Common.{refl, sym, ap, ◌∙◌, inl, inr, arith, subst, subst₂}
use Rattle.std.proofs.lemmas.List.{length-map, length-take, length-append, map-append, take-append-drop}
use Rattle.std.proofs.Math.Seq.{take-append-le}
use Rattle.std.proofs.lemmas.Bool.Decides.{leb_tells}
use Rattle.piece_ring.specs.Text.{Text}
use Rattle.text_frames.specs.Lines.{is_return, ends_line, begins_line, greatest_where, line_start}
use Rattle.text_frames.specs.Cells.{column_after, column_in, row_of, row_start, column_of}
use Rattle.text_frames.specs.Row.{ShownCell, cells_of, cells_at, row_cells}
use Rattle.text_frames.proofs.RowCells.{cells_done}
use Rattle.screen_cells.specs.Lines.{IsAbove, HasSameRows}

-- ---- the front of a list

module _ {X : Type 0} where
  drop_front : (xs ys : List X) (s : ℕ) → s ≤ length xs → drop s (xs ++ ys) ≡ drop s xs ++ ys
  drop_front xs ys zero within = refl
  drop_front [] ys (suc s) within = absurd (let bad : ⊥ = omega (arith, within) in bad)
  drop_front (x ∷ xs) ys (suc s) within = drop_front xs ys s (omega (arith, within))

  get_front : (xs ys : List X) (k : ℕ) → k < length xs → slice_get (xs ++ ys) k ≡ slice_get xs k
  get_front [] ys k within = absurd (let bad : ⊥ = omega (arith, within) in bad)
  get_front (x ∷ xs) ys zero within = refl
  get_front (x ∷ xs) ys (suc k) within = get_front xs ys k (omega (arith, within))

  length-drop_from : (xs : List X) (s : ℕ) → s ≤ length xs → length (drop s xs) + s ≡ length xs
  length-drop_from xs zero within = let e : length xs + 0 ≡ length xs = omega arith in e
  length-drop_from [] (suc s) within = absurd (let bad : ⊥ = omega (arith, within) in bad)
  length-drop_from (x ∷ xs) (suc s) within =
      let rest = length-drop_from xs s (omega (arith, within)) in omega (arith, rest)

  part_front : (xs ys : List X) (s k : ℕ) → s ≤ k → k ≤ length xs
      → take (k - s) (drop s (xs ++ ys)) ≡ take (k - s) (drop s xs)
  part_front xs ys s k low high =
      let within : s ≤ length xs = omega (arith, low, high) in
      let long = length-drop_from xs s within in
      ap (take (k - s)) (drop_front xs ys s within)
      ∙ take-append-le (k - s) (drop s xs) ys (omega (arith, long, low, high))

  same_over : (f g : ℕ → List X) (a n : ℕ) → ((k : ℕ) → a ≤ k → k < a + n → f k ≡ g k)
      → flat_map f (range_with_len a n) ≡ flat_map g (range_with_len a n)
  same_over f g a zero same = refl
  same_over f g a (suc n) same =
      ap (λ l. l ++ flat_map f (range_with_len (a + 1) n)) (same a (omega arith) (omega arith))
      ∙ ap (λ l. g a ++ l) (same_over f g (a + 1) n
      (λ k low high. same k (omega (arith, low)) (omega (arith, high))))

-- ---- rows and columns in the front of a text

module _ (xs ys : List ℕ) where
  start_front : (k : ℕ) → k ≤ length xs → line_start (xs ++ ys) k ≡ line_start xs k
  start_front zero within = refl
  start_front (suc k) within =
      let here : begins_line (xs ++ ys) (suc k) ≡ begins_line xs (suc k) =
      ap ends_line (get_front xs ys k (omega (arith, within))) in
      ap (λ b. cond b (suc k) (greatest_where (begins_line (xs ++ ys)) k)) here
      ∙ ap (λ n. cond (begins_line xs (suc k)) (suc k) n) (start_front k (omega (arith, within)))

  row_front : (org k : ℕ) → org ≤ k → k ≤ length xs → row_of (xs ++ ys) org k ≡ row_of xs org k
  row_front org k low high = ap (count_by is_return) (part_front xs ys org k low high)

  start_by : (k : ℕ) → line_start xs k ≤ k
  start_by zero = let le : 0 ≤ 0 = omega arith in le
  start_by (suc k) = elim (begins_line xs (suc k)) as (λ b. cond b (suc k) (line_start xs k) ≤ suc k) [
    | true ↦ let le : suc k ≤ suc k = omega arith in le
    | false ↦ let rest = start_by k in omega (arith, rest)
  ]

  column_front : (org k : ℕ) → org ≤ k → k ≤ length xs → column_of (xs ++ ys) org k ≡ column_of xs org k
  column_front org k low high =
      let s : ℕ = row_start xs org k in
      let by = start_by k in
      let before : s ≤ k = omega (arith, low, by) in
      ap (λ n. column_in (drop (max org n) (xs ++ ys)) (k - max org n)) (start_front k high)
      ∙ ap (fold column_after 0) (part_front xs ys s k before high)

-- ---- rows

module _ (f r : Text ℕ) (org row : ℕ) where
  bytes_front : map (λ c. c.0) (f ++ r) ≡ map (λ c. c.0) f ++ map (λ c. c.0) r
  bytes_front = map-append (λ c. c.0) f r

  cell_front : (k : ℕ) → org ≤ k → k < length f → cells_at (f ++ r) org row k ≡ cells_at f org row k
  cell_front k low high =
      let xs : List ℕ = map (λ c. c.0) f in
      let ys : List ℕ = map (λ c. c.0) r in
      let within : k ≤ length xs = omega (arith, high, length-map f (λ c. c.0)) in
      ap (λ bs. cells_of (row_of bs org k == row) (column_of bs org k) (slice_get (f ++ r) k) k) bytes_front
      ∙ ap (λ n. cells_of (n == row) (column_of (xs ++ ys) org k) (slice_get (f ++ r) k) k)
      (row_front xs ys org k low within)
      ∙ ap (λ n. cells_of (row_of xs org k == row) n (slice_get (f ++ r) k) k) (column_front xs ys org k low within)
      ∙ ap (λ o. cells_of (row_of xs org k == row) (column_of xs org k) o k) (get_front f r k high)

  end_row : org ≤ length f
      → row_of (map (λ c. c.0) (f ++ r)) org (length f) ≡ row_of (map (λ c. c.0) f) org (length f)
  end_row low =
      let xs : List ℕ = map (λ c. c.0) f in
      ap (λ bs. row_of bs org (length f)) bytes_front
      ∙ row_front xs (map (λ c. c.0) r) org (length f) low (omega (arith, length-map f (λ c. c.0)))

  -- a row above that of the end of the front
  row_in_front : (w : ℕ) → org ≤ length f → row < row_of (map (λ c. c.0) f) org (length f)
      → take w (flat_map (cells_at f org row) (range_with_len org (length f - org))) ≡ row_cells w (f ++ r) org row
  row_in_front w low above =
      let last : ℕ = row_of (map (λ c. c.0) f) org (length f) in
      let line : List ShownCell = take w (flat_map (cells_at f org row) (range_with_len org (length f - org))) in
      cells_done (f ++ r) org row w (length f) last line low (omega (arith, length-append f r))
      (ap (take w) (sym (same_over (cells_at (f ++ r) org row) (cells_at f org row) org (length f - org)
      (λ k from high. cell_front k from (omega (arith, high, low))))))
      (sym (end_row low))
      (elim (leb_tells (suc row) last) [
        | inl past ↦ ap (λ b. b || (length line == w)) past.0
        | inr before ↦ absurd (let bad : ⊥ = omega (arith, before.1, above) in bad)
      ])

-- rows above that of a position stay while the characters before it do
pub rows_stay : (before after : Text ℕ) (p org row : ℕ) → take p after ≡ take p before → IsAbove before p org row
    → HasSameRows before after org row
rows_stay before after p org row same (inl none) = λ w r low. absurd (let bad : ⊥ = omega (arith, none, low) in bad)
rows_stay before after p org row same (inr is) = λ w r low.
    let f : Text ℕ = take p before in
    let long : length f ≡ p = omega (arith, length-take p before, is.1) in
    let from : org ≤ length f = omega (arith, long, is.0) in
    let one : before ≡ f ++ drop p before = sym (take-append-drop p before) in
    let other : after ≡ f ++ drop p after = sym (take-append-drop p after) ∙ ap (λ l. l ++ drop p after) same in
    let last : row ≡ row_of (map (λ c. c.0) f) org (length f) =
    is.2 ∙ ap (λ t. row_of (map (λ c. c.0) t) org p) one
    ∙ ap (λ n. row_of (map (λ c. c.0) (f ++ drop p before)) org n) (sym long)
    ∙ end_row f (drop p before) org r from in
    let above : r < row_of (map (λ c. c.0) f) org (length f) = omega (arith, low, last) in
    ap (λ t. row_cells w t org r) other
    ∙ sym (row_in_front f (drop p after) org r w from above)
    ∙ row_in_front f (drop p before) org r w from above
    ∙ sym (ap (λ t. row_cells w t org r) one)
