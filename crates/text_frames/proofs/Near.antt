-- The column of a position, told by the characters near it.
use Rattle.std.specs.Prelude.{◌≡◌, ℕ, suc, ◌+◌, ◌-◌, ◌<◌, ◌≤◌, max, Bool, true, false, cond, ◌&&◌, nat_lt, List}
use Rattle.std.specs.Prelude.{[], ◌∷◌, length, take, drop, fold, Option, Some, None, IfSome}
use Rattle.std.specs.Option.{option_map}
use Rattle.std.proofs.Common.{refl, sym, ap, ◌∙◌, inl, inr, arith, length-drop}
use Rattle.std.proofs.lemmas.List.{length-take-le}
use Rattle.std.proofs.lemmas.Bool.{le-leb}
use Rattle.std.proofs.lemmas.Bool.Decides.{leb_tells}
use Rattle.text_frames.specs.Lines.{begins_line, line_start}
use Rattle.text_frames.specs.Cells.{column_after, column_in, row_of, row_start, column_of, cell_of}
use Rattle.text_frames.specs.Near.{below, cell_in}
use Rattle.text_frames.proofs.Greatest.{greatest_within}
use Rattle.text_frames.proofs.Placing.{further}

-- each character takes a column at least
fold_least : (bytes : List ℕ) (column : ℕ) → column + length bytes ≤ fold column_after column bytes
fold_least [] column = omega arith
fold_least (b ∷ bytes) column =
    let more = further column b in let rest = fold_least bytes (column_after column b) in omega (arith, more, rest)

column_least : (line : List ℕ) (i : ℕ) → i ≤ length line → i ≤ column_in line i
column_least line i h =
    let long = length-take-le i line h in let least = fold_least (take i line) 0 in omega (arith, long, least)

module _ (bs : List ℕ) (org p : ℕ) where
  pub column_wide : (most : ℕ) → p ≤ length bs → row_start bs org p + most ≤ p → most ≤ column_of bs org p
  column_wide most within far =
      let long = length-drop (row_start bs org p) bs in
      let least = column_least (drop (row_start bs org p) bs) (p - row_start bs org p) (omega (arith, long, within)) in
      omega (arith, least, far)

  -- read from the start of the row it is the same
  pub same_column : (start : ℕ) → start ≡ row_start bs org p → column_of bs start p ≡ column_of bs org p
  same_column start e =
      ap (λ k. column_in (drop k bs) (p - k))
      (let same : max start (line_start bs p) ≡ row_start bs org p = omega (arith, e) in same)

  -- where no line begins from `low` on, and where one begins at `at`
  pub starts_above : (low most : ℕ) → line_start bs p ≡ line_start bs low → org < low → low + most ≤ p
      → row_start bs org p + most ≤ p
  starts_above low most same after far =
      let within = greatest_within (begins_line bs) low in omega (arith, same, within, after, far)

  pub starts_at_org : (low : ℕ) → line_start bs p ≡ line_start bs low → low ≡ org → org ≡ row_start bs org p
  starts_at_org low same e = let within = greatest_within (begins_line bs) low in omega (arith, same, within, e)

  pub starts_at : (at : ℕ) → at ≡ line_start bs p → org ≤ at → at ≡ row_start bs org p
  starts_at at is from = omega (arith, is, from)

-- the column, where it is below w
pub below_none : (w column : ℕ) → w ≤ column → None ≡ below w column
below_none w column h = elim (leb_tells (suc column) w) [
  | inl lt ↦ absurd (let bad : ⊥ = omega (arith, lt.1, h) in bad)
  | inr ge ↦ sym (ap (λ b. cond b (Some column) None) ge.0)
]

-- the cell of a position, by its row and its column
module _ (bs : List ℕ) (w h org p : ℕ) (from : org ≤ p) where
  inside : (r c : ℕ) (b d : Bool)
      → cond b (option_map {U = ℕ × ℕ} (λ x. (x, r)) (cond d (Some c) None)) None ≡ cond (b && d) (Some (c, r)) None
  inside r c true true = refl
  inside r c true false = refl
  inside r c false d = refl

  pub cell_known : (ends : ℕ) (column : Option ℕ) → nat_lt ends h ≡ nat_lt (row_of bs org p) h
      → (ends < h → ends ≡ row_of bs org p) → column ≡ below w (column_of bs org p)
      → cell_in column ends h ≡ cell_of w h bs org p
  cell_known ends column few exact col =
      row_by
      ∙ inside (row_of bs org p) (column_of bs org p) (nat_lt (row_of bs org p) h) (nat_lt (column_of bs org p) w)
      ∙ sym (ap (λ b. cond (b && (nat_lt (row_of bs org p) h && nat_lt (column_of bs org p) w))
      (Some (column_of bs org p, row_of bs org p)) None) (le-leb org p from))
    where
      row_by : cell_in column ends h ≡ cell_in (below w (column_of bs org p)) (row_of bs org p) h
      row_by = elim (leb_tells (suc ends) h) [
        | inl lt ↦ (λ k. cell_in (col k) (exact lt.1 k) h)
        | inr ge ↦
            ap (λ b. cond b (option_map {U = ℕ × ℕ} (λ c. (c, ends)) column) None) ge.0
            ∙ sym (ap (λ b. cond b (option_map {U = ℕ × ℕ} (λ c. (c, row_of bs org p))
            (below w (column_of bs org p))) None) (sym few ∙ ge.0))
      ]

-- what is known of it, whatever was read
pub cell_ranges : (w h : ℕ) (column : Option ℕ) (cell : Option (ℕ × ℕ)) → IfSome column (λ c. c < w)
    → IfSome cell (λ c. c.1 < h) → IfSome cell (λ c. column ≡ Some c.0) → IfSome cell (λ c. (c.0 < w) × (c.1 < h))
cell_ranges w h column None narrow low is = tt
cell_ranges w h None (Some c) narrow low is = absurd (let wrong : ⊥ = cc in wrong)
cell_ranges w h (Some x) (Some c) narrow low is =
    let same : x ≡ c.0 = cc in ((let lt : c.0 < w = omega (arith, same, narrow) in lt), low)

pub cell_from : (org p : ℕ) (cell : Option (ℕ × ℕ)) → org ≤ p → IfSome cell (λ c. org ≤ p)
cell_from org p None from = tt
cell_from org p (Some c) from = from
