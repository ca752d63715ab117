-- What was read of a text, by the parts of a frame.
use Rattle.std.specs.Prelude.{◌≡◌, ℕ, ◌-◌, ◌<◌, ◌≤◌, ◌&&◌, nat_le, nat_lt, Bool, true, false, if◌then◌else◌}
use Rattle.std.specs.Prelude.{List, length, Option, Some, None, option_map}
use Rattle.std.proofs.Common.{refl, sym, ap, ◌∙◌, arith}
use Rattle.std.proofs.lemmas.Bool.{le-leb, lt-ltb, le-ltb}
use Rattle.text_frames.specs.Lines.{line_start, line_above}
use Rattle.text_frames.specs.Cells.{column_of, row_of, row_start, cell_of}
use Rattle.text_frames.specs.Near.{below}
use Rattle.text_frames.specs.Rules.{is_in_rows}
use Rattle.text_frames.proofs.Near.{same_column}
use Rattle.desk_input.specs.Lines.{start_below, lines_in_sight}
use Rattle.caret_moves.specs.Steps.{end_of_line, org_for}
use Rattle.caret_moves.proofs.RowLaws.{own_row, row_low}

-- the column of a cell in the first row of a frame
by_column : (c r : ℕ) (b : Bool)
    → option_map {U = ℕ} (λ (x : ℕ × ℕ). x.0) (if b then Some (c, r) else None) ≡ (if b then Some c else None)
by_column c r true = refl
by_column c r false = refl

pub column_read : (bs : List ℕ) (w org p : ℕ) → org ≤ p → p ≤ length bs
    → option_map (λ (x : ℕ × ℕ). x.0) (cell_of w 1 bs (row_start bs org p) p) ≡ below w (column_of bs org p)
column_read bs w org p from within =
    let start : ℕ = row_start bs org p in
    let low : start ≤ p = row_low bs org p from in
    let first : row_of bs start p < 1 = (let own = own_row bs org p from within in omega (arith, own)) in
    by_column (column_of bs start p) (row_of bs start p)
    (nat_le start p && (nat_lt (row_of bs start p) 1 && nat_lt (column_of bs start p) w))
    ∙ (λ k. if le-leb start p low k && (lt-ltb (row_of bs start p) 1 first k && nat_lt (column_of bs start p) w)
    then Some (column_of bs start p) else None)
    ∙ ap (below w) (same_column bs org p start refl)

-- ---- the end of a line

module _ (bs : List ℕ) (p below : ℕ) (is : below ≡ start_below bs p) where
  pub end_above : p < below → below - 1 ≡ end_of_line bs p
  end_above more =
      ap (λ (k : ℕ). k - 1) is
      ∙ ap (λ (b : Bool). if b then start_below bs p - 1 else length bs)
      (sym (lt-ltb p (start_below bs p) (let l : p < start_below bs p = omega (arith, is, more) in l)))

  pub end_of_text : below ≤ p → length bs ≡ end_of_line bs p
  end_of_text none =
      ap (λ (b : Bool). if b then start_below bs p - 1 else length bs)
      (sym (le-ltb p (start_below bs p) (let l : start_below bs p ≤ p = omega (arith, is, none) in l)))

-- ---- where the text is shown from

module _ (bs : List ℕ) (h org p : ℕ) where
  sight_by : (b : Bool) → is_in_rows bs h org p ≡ b → (told : Option ℕ)
      → told ≡ (if is_in_rows bs h org p then Some (row_of bs org p) else None)
      → told ≡ (if b then Some (row_of bs org p) else None)
  sight_by b is told e = e ∙ ap (λ (x : Bool). if x then Some (row_of bs org p) else None) is

  pub org_stays : (lines : ℕ) → Some lines ≡ lines_in_sight bs h org p → org ≡ org_for bs h org p
  org_stays lines told = (elim (is_in_rows bs h org p) as (λ (b : Bool). is_in_rows bs h org p ≡ b
      → org ≡ (if b then org else (if nat_lt p org then line_start bs p else line_above bs (h - 1) p))) [
        | true ↦ λ is. refl
        | false ↦ λ is. absurd (cc (sight_by false is (Some lines) told))
      ]) refl

  not_shown : None ≡ lines_in_sight bs h org p
      → org_for bs h org p ≡ (if nat_lt p org then line_start bs p else line_above bs (h - 1) p)
  not_shown told = (elim (is_in_rows bs h org p) as (λ (b : Bool). is_in_rows bs h org p ≡ b
      → (if b then org else (if nat_lt p org then line_start bs p else line_above bs (h - 1) p))
      ≡ (if nat_lt p org then line_start bs p else line_above bs (h - 1) p)) [
        | true ↦ λ is. absurd (cc (sight_by true is None told))
        | false ↦ λ is. refl
      ]) refl

  pub org_up : None ≡ lines_in_sight bs h org p → p < org → line_start bs p ≡ org_for bs h org p
  org_up told before = sym (not_shown told
      ∙ ap (λ (b : Bool). if b then line_start bs p else line_above bs (h - 1) p) (lt-ltb p org before))

  pub org_down : None ≡ lines_in_sight bs h org p → org ≤ p → line_above bs (h - 1) p ≡ org_for bs h org p
  org_down told from = sym (not_shown told
      ∙ ap (λ (b : Bool). if b then line_start bs p else line_above bs (h - 1) p) (le-ltb p org from))
