-- Lists of the values of a function.
use Rattle.std.proofs.Common.{◌≡◌, ℕ, ◌+◌, ◌-◌, ◌<◌, ◌≤◌, List, length, get_or, [], ◌++◌, take, ap, ◌∙◌, arith, inl, inr}
use Rattle.std.specs.Prelude.{replicate}
use Rattle.std.proofs.lemmas.Bool.Decides.{leb_tells}
use Rattle.std.proofs.lemmas.List.{length-replicate, get_or-replicate, length-append, get_or_append_left}
use Rattle.std.proofs.lemmas.List.{get_or-append_right, get_or-take, length-take-le}
use Rattle.std.proofs.lemmas.List.FromFn.{fill_by_all, get_or-map-range_with_len, length-map-range_with_len}
use Rattle.viewer_tracks.specs.declared.display.TheConstants.{ROWS, COLUMNS}
use Rattle.screen_pictures.specs.declared.cell.Cell.{Cell}
use Rattle.screen_pictures.specs.Picture.{filler}
use Rattle.screen_pictures.specs.Screen.{values, screen_of, cell_at, column_at}

module _ {X : Type 0} where
  pub values_is : (n : ℕ) (f : ℕ → X) (xs : List X) (d : X) → length xs ≡ n → ((k : ℕ) → k < n → get_or xs k d ≡ f k)
      → xs ≡ values n f
  unfolding values
  values_is n f xs d long each = fill_by_all f xs n d long each

  pub value_at : (n : ℕ) (f : ℕ → X) (k : ℕ) (d : X) → k < n → get_or (values n f) k d ≡ f k
  unfolding values
  value_at n f k d h = get_or-map-range_with_len f 0 n k k d h (omega arith)

  pub length-values : (n : ℕ) (f : ℕ → X) → length (values n f) ≡ n
  unfolding values
  length-values n f = length-map-range_with_len f 0 n

  pub values_same : (n : ℕ) (f g : ℕ → X) → ((k : ℕ) → k < n → f k ≡ g k) → values n f ≡ values n g
  values_same n f g same = values_is n g (values n f) (f 0) (length-values n f) (λ k h. value_at n f k (f 0) h
      ∙ same k h)

  pub replicate_is : (n : ℕ) (x : X) → replicate n x ≡ values n (λ k. x)
  replicate_is n x = values_is n (λ k. x) (replicate n x) x (length-replicate n x) (λ k h. get_or-replicate n k x x h)

  -- the first of more values
  pub values_front : (n m : ℕ) (f : ℕ → X) → n ≤ m → take n (values m f) ≡ values n f
  values_front n m f few =
      values_is n f (take n (values m f)) (f 0)
      (length-take-le n (values m f) (let le : n ≤ length (values m f) = omega (arith, few, length-values m f) in le))
      (λ k h. get_or-take n (values m f) k (f 0) h
      ∙ value_at m f k (f 0) (let lt : k < m = omega (arith, h, few) in lt))

  -- the first n values and the m after them
  pub values_join : (n m all : ℕ) (f g h : ℕ → X) → n + m ≡ all → ((k : ℕ) → k < n → f k ≡ h k)
      → ((k : ℕ) → k < m → g k ≡ h (n + k)) → values n f ++ values m g ≡ values all h
  values_join n m all f g h whole front back =
      values_is all h (values n f ++ values m g) (f 0)
      (length-append (values n f) (values m g) ∙ (λ i. length-values n f i + length-values m g i) ∙ whole)
      (λ k below. elim (leb_tells (k + 1) n) [
        | inl low ↦
            let inside : k < n = omega (arith, low.1) in
            get_or_append_left (values n f) (values m g) (f 0) k (omega (arith, inside, length-values n f))
            ∙ value_at n f k (f 0) inside ∙ front k inside
        | inr past ↦
            let from : n ≤ k = omega (arith, past.1) in
            let inside : k - n < m = omega (arith, below, whole, from) in
            get_or-append_right (values n f) (values m g) n k (f 0) (length-values n f) from
            ∙ value_at m g (k - n) (f 0) inside ∙ back (k - n) inside
            ∙ ap h (let e : n + (k - n) ≡ k = omega (arith, from) in e)
      ])

pub cell_of : (f : ℕ → ℕ → Cell) (x y : ℕ) → x < COLUMNS → y < ROWS → cell_at (screen_of f) x y ≡ f x y
cell_of f x y inside_row inside =
    ap (λ row. column_at row x) (value_at ROWS (λ n. values COLUMNS (λ m. f m n)) y [] inside)
    ∙ value_at COLUMNS (λ m. f m y) x filler inside_row

pub all_same : (cell wanted : Cell) → cell ≡ wanted → replicate ROWS (replicate COLUMNS cell) ≡ screen_of
    (λ x y. wanted)
all_same cell wanted same = ap (λ row. replicate ROWS row) (replicate_is COLUMNS cell)
    ∙ replicate_is ROWS (values COLUMNS (λ x. cell))
    ∙ ap (λ c. screen_of (λ x y. c)) same
