-- A row of a frame that is read on from a place at which none of its characters is passed.
use Rattle.std.specs.Prelude.{◌≡◌, ℕ, suc, ◌+◌, ◌-◌, ◌<◌, ◌≤◌, Bool, true, false, cond, ◌||◌, ◌==◌, nat_lt, List, []}
use Rattle.std.specs.Prelude.{◌++◌, length, take, replicate, Some, slice_get}
use Rattle.std.specs.List.{All, flat_map, range_with_len}
use Rattle.std.proofs.Common.{refl, sym, ap, ◌∙◌, inl, inr, arith}
use Rattle.std.proofs.lemmas.Bool.{cases_eq}
use Rattle.std.proofs.lemmas.Bool.Decides.{leb_tells}
use Rattle.std.proofs.lemmas.List.Elements.{All-same, All-nil}
use Rattle.char_file.specs.Source.{OnlyReads}
use Rattle.piece_ring.specs.declared.piece.Look.{Look}
use Rattle.piece_ring.specs.Text.{Text}
use Rattle.readers_scanners.specs.Reading.{contents, bytes_of_text, Reading}
use Rattle.readers_scanners.proofs.Walking.{at_first, seen_character, byte_there}
use Rattle.event_bytes.specs.Bytes.{carriage_return}
use Rattle.text_frames.specs.Lines.{is_return, ends_between}
use Rattle.text_frames.specs.Cells.{column_after, row_of, column_of}
use Rattle.text_frames.specs.Row.{ShownCell, cells_taken, cells_at, IsOfText, AreRowCells}
use Rattle.text_frames.specs.Reading.{IsReadTo, IsRowBelow, IsPlaceInRows}
use Rattle.text_frames.proofs.Ends.{ends_on}
use Rattle.text_frames.proofs.Filling.{all_filled}
use Rattle.text_frames.proofs.Placing.{IsPlaced, placed_on, row_first, column_first, row_next, column_next, rows_rise}
use Rattle.text_frames.proofs.Placing.{length-read as read_long}
use Rattle.text_frames.proofs.RowCells.{cells_none, cells_on, cells_done, cells_last, most_filled, length-read}

-- before the first row
pub read_none : (honest : Type 0) (characters : List ℕ) (text : Text ℕ) (org : ℕ) (reader : Reading)
    → org ≤ length text → reader.position ≡ org → reader.text ≡ text
    → IsReadTo honest characters text org 0 reader 0 0
read_none honest characters text org reader inside place same = record {
  same = same;
  from = omega (arith, place);
  within = omega (arith, place, inside);
  few = omega arith;
  short = omega arith;
  high = omega arith;
  in_row = λ h. sym (row_first (bytes_of_text characters text) org) ∙ ap (row_of (bytes_of_text characters text) org) (sym place);
  in_column = λ h. sym (column_first (bytes_of_text characters text) org)
      ∙ ap (column_of (bytes_of_text characters text) org) (sym place);
  passed = λ h p low high. absurd (let bad : ⊥ = omega (arith, low, high, place) in bad);
}

-- what isn't passed from one row on isn't from a later one on
pub read_below : (honest : Type 0) (characters : List ℕ) (text : Text ℕ) (org next row : ℕ) (reader : Reading)
    (r column : ℕ) → next ≤ row → IsReadTo honest characters text org next reader r column
    → IsReadTo honest characters text org row reader r column
read_below honest characters text org next row reader r column later is = record {
  same = is.same;
  from = is.from;
  within = is.within;
  few = is.few;
  short = is.short;
  high = (let above = is.high in let le : r ≤ row = omega (arith, above, later) in le);
  in_row = is.in_row;
  in_column = is.in_column;
  passed = λ h p low high. let lt = is.passed h p low high in omega (arith, lt, later);
}

-- where a row begins below the one at org
pub place_of_row : (bs : List ℕ) (org n begin : ℕ) → 0 < n → org + n ≤ begin → IsRowBelow bs org n begin
    → IsPlaceInRows bs org begin n 0
place_of_row bs org n begin some far is =
    let last : ℕ = begin - 1 in
    let next_is : last + 1 ≡ begin = omega (arith, some, far) in
    record {
      in_row = sym is.below;
      in_column = column_next bs org last carriage_return is.behind (omega (arith, some, far)) (column_of bs org last)
          refl ∙ ap (column_of bs org) next_is;
    }

-- and org itself
pub place_first : (bs : List ℕ) (org : ℕ) → IsPlaceInRows bs org org 0 0
place_first bs org = record { in_row = sym (row_first bs org); in_column = sym (column_first bs org) }

-- a row that begins further down
pub row_reached : (honest : Type 0) (characters : List ℕ) (text : Text ℕ) (reader next : Reading)
    (org row r column n begin : ℕ) → IsReadTo honest characters text org row reader r column → r < row → n ≡ row - r
    → next.text ≡ text → next.position ≡ begin → reader.position + n ≤ begin → begin ≤ length text
    → (honest → IsRowBelow (bytes_of_text characters text) reader.position n begin)
    → IsReadTo honest characters text org row next row 0
row_reached honest characters text reader next org row r column n begin is above e same at far within begins =
    let few = is.few in let from = is.from in
    record {
      same = same;
      from = omega (arith, from, far, at);
      within = omega (arith, within, at);
      few = omega (arith, few, above, e, far, at);
      short = omega arith;
      high = omega arith;
      in_row = λ h. rw at (here h);
      in_column = λ h. rw at (first h);
      passed = λ h p low under. before h p low (omega (arith, under, at));
    }
  where
    bs : List ℕ
    bs = bytes_of_text characters text

    last : ℕ
    last = begin - 1

    next_is : last + 1 ≡ begin
    next_is = omega (arith, above, e, far)

    inside : org ≤ last
    inside = let from = is.from in omega (arith, from, above, e, far)

    here : honest → row ≡ row_of bs org begin
    here h =
        let from = is.from in let low : reader.position ≤ begin = omega (arith, far) in
        let on = ends_on bs org reader.position (begin - reader.position) from in
        let to : reader.position + (begin - reader.position) ≡ begin = omega (arith, low) in
        let all : row_of bs org begin ≡ row_of bs org reader.position + ends_between bs reader.position begin =
        ap (row_of bs org) (sym to) ∙ on
        ∙ ap (λ k. row_of bs org reader.position + ends_between bs reader.position k) to in
        let start = is.in_row h in let more = (begins h).below in omega (arith, all, start, more, above, e)

    first : honest → 0 ≡ column_of bs org begin
    first h = column_next bs org last carriage_return (begins h).behind inside (column_of bs org last) refl
        ∙ ap (column_of bs org) next_is

    before : honest → (p : ℕ) → org ≤ p → p < begin → row_of bs org p < row
    before h p low under =
        let long = read_long characters text in
        let rise = rows_rise bs org p (last - p) last low (omega (arith, under)) (omega (arith, within, long)) in
        let more : row_of bs org last + 1 ≡ row_of bs org (last + 1) =
        row_next bs org last carriage_return (begins h).behind inside (row_of bs org last) refl in
        let same : row_of bs org (last + 1) ≡ row_of bs org begin = ap (row_of bs org) next_is in
        let is_row = here h in omega (arith, rise, more, same, is_row)

-- what a place passes of rows
pub done_high : (r r' row byte : ℕ) → r' ≡ cond (is_return byte) (r + 1) r → r ≤ row → r' ≤ row + 1
done_high r r' row byte is high = rw is (by (is_return byte))
  where
    by : (b : Bool) → cond b (r + 1) r ≤ row + 1
    by true = (let le : r + 1 ≤ row + 1 = omega (arith, high) in le)
    by false = (let le : r ≤ row + 1 = omega (arith, high) in le)

pub more_high : (r row : ℕ) (full : Bool) → (nat_lt row r || full) ≡ false → r ≤ row
more_high r row full more = elim (leb_tells (suc row) r) [
  | inl past ↦ let bad : true ≡ false = sym (ap (λ b. b || full) past.0) ∙ more in absurd (let wrong : ⊥ = cc in wrong)
  | inr before ↦ let le = before.1 in omega (arith, le)
]

module _ {S : Type 0} (characters : S → List ℕ) (failures : S → ℕ) (honest : S → Type 0) (same_ground : S → S
    → Type 0) where
  -- The reader stands before the character `at`, and no character from the row `next` on is passed.
  pub record IsSkipped (start now : S) (text : Text ℕ) (reader : Reading) (org next at r column : ℕ) : Type 0 where
    pub placed : IsPlaced characters failures honest same_ground start now text reader org at r column
    pub from : org ≤ at
    pub within : at ≤ length text
    pub high : r ≤ next
    pub passed : honest start → (p : ℕ) → org ≤ p → p < at → row_of (bytes_of_text (characters start) text) org p < next

  pub skipped : (start now : S) (text : Text ℕ) (reader : Reading) (org next at r column : ℕ)
      → IsSkipped start now text reader org next at r column
      → IsReadTo (honest start) (characters start) text org next reader r column
  skipped start now text reader org next at r column is =
      let place = is.placed.way.place in let from = is.from in let within = is.within in let few = is.placed.few in
      record {
        same = is.placed.way.same;
        from = omega (arith, place, from);
        within = omega (arith, place, within);
        few = omega (arith, place, few);
        short = rw place is.placed.short;
        high = is.high;
        in_row = λ h. rw place (is.placed.in_row h);
        in_column = λ h. rw place (is.placed.in_column h);
        passed = λ h p low under. is.passed h p low (omega (arith, under, place));
      }

  -- a reader that has passed nothing but what was read before
  pub begun : (start now : S) (text : Text ℕ) (reader : Reading) (org next at r column : ℕ)
      → OnlyReads characters failures honest same_ground start now → failures now ≡ failures start
      → IsReadTo (honest start) (characters start) text org next reader r column → at ≡ reader.position
      → IsSkipped start now text reader org next at r column
  begun start now text reader org next at r column reads calm is here =
      let from = is.from in let within = is.within in let few = is.few in
      record {
        placed = record {
          way = record { place = sym here; same = is.same; reads = reads; calm = calm };
          few = omega (arith, few, here);
          short = rw here is.short;
          in_row = λ h. rw here (is.in_row h);
          in_column = λ h. rw here (is.in_column h);
        };
        from = omega (arith, from, here);
        within = omega (arith, within, here);
        high = is.high;
        passed = λ h p low high. is.passed h p low (omega (arith, high, here));
      }

  -- a character more that is in a row above
  passed_on : (start : S) (text : Text ℕ) (org next at r : ℕ) → row_of (bytes_of_text (characters start) text) org at ≡ r
      → r < next → ((p : ℕ) → org ≤ p → p < at → row_of (bytes_of_text (characters start) text) org p < next)
      → (p : ℕ) → org ≤ p → p < at + 1 → row_of (bytes_of_text (characters start) text) org p < next
  passed_on start text org next at r in_row high before p under over = elim (cases_eq p at) [
    | inl same ↦
        let at_row : row_of (bytes_of_text (characters start) text) org p ≡ r =
        ap (row_of (bytes_of_text (characters start) text) org) same ∙ in_row in
        omega (arith, at_row, high)
    | inr other ↦ before p under (omega (arith, over, other))
  ]

  -- The reader stands before the character `at`, and the line has the cells of those before it, as far as there are w.
  pub record IsRowSoFar (start now : S) (text : Text ℕ) (reader : Reading) (org w row at r column : ℕ)
      (line : List ShownCell) : Type 0 where
    pub placed : IsPlaced characters failures honest same_ground start now text reader org at r column
    pub from : org ≤ at
    pub within : at ≤ length text
    pub passed : honest start → (p : ℕ) → org ≤ p → p < at → row_of (bytes_of_text (characters start) text) org p < row + 1
    pub most : length line ≤ w
    pub range : All (IsOfText text org) line
    pub cells : honest start
        → line ≡ take w (flat_map (cells_at (contents (characters start) text) org row) (range_with_len org (at - org)))

  -- where the row is done, and where the text ends
  pub row_done : (start now : S) (text : Text ℕ) (reader : Reading) (org w row at r column : ℕ) (line : List ShownCell)
      → IsRowSoFar start now text reader org w row at r column line → (nat_lt row r || (length line == w)) ≡ true
      → AreRowCells (honest start) (characters start) text w org row line
  row_done start now text reader org w row at r column line is done = record {
    exact = λ h. cells_done (contents (characters start) text) org row w at r line is.from
        (let inside = is.within in let long = length-read (characters start) text in omega (arith, inside, long))
        (is.cells h) (is.placed.in_row h) done;
    most = is.most;
    range = is.range;
  }

  pub row_last : (start now : S) (text : Text ℕ) (reader : Reading) (org w row at r column : ℕ) (line : List ShownCell)
      → IsRowSoFar start now text reader org w row at r column line → length text ≤ at
      → AreRowCells (honest start) (characters start) text w org row line
  row_last start now text reader org w row at r column line is end = record {
    exact = λ h. cells_last (contents (characters start) text) org row w at (length text) line
        (let inside = is.within in omega (arith, inside, end)) (sym (length-read (characters start) text)) (is.cells h);
    most = is.most;
    range = is.range;
  }

  -- what is known for the row below
  pub read_on : (start now : S) (text : Text ℕ) (reader : Reading) (org w row at r column : ℕ) (line : List ShownCell)
      → IsRowSoFar start now text reader org w row at r column line → r ≤ row + 1
      → IsReadTo (honest start) (characters start) text org (row + 1) reader r column
  read_on start now text reader org w row at r column line is high =
      skipped start now text reader org (row + 1) at r column
      (record { placed = is.placed; from = is.from; within = is.within; high = high; passed = is.passed })

  module _ (ground_self : (s : S) → same_ground s s) (ground_through : (a b c : S) → same_ground a b → same_ground b c
      → same_ground a c) where
    pub row_begun : (start now : S) (text : Text ℕ) (reader : Reading) (org w row at r column : ℕ)
        (line : List ShownCell)
        → OnlyReads characters failures honest same_ground start now → failures now ≡ failures start
        → IsReadTo (honest start) (characters start) text org row reader r column → at ≡ reader.position → line ≡ []
        → IsRowSoFar start now text reader org w row at r column line
    row_begun start now text reader org w row at r column line reads calm is here none =
        let before = begun start now text reader org row at r column reads calm is here in
        record {
          placed = before.placed;
          from = before.from;
          within = before.within;
          passed = λ h p low high. let lt = before.passed h p low high in
              let more : row_of (bytes_of_text (characters start) text) org p < row + 1 = omega (arith, lt) in more;
          most = omega (arith, ap length none);
          range = All-same (IsOfText text org) _ _ none (All-nil (IsOfText text org));
          cells = λ h. none ∙ cells_none (contents (characters start) text) org row w at (before.passed h);
        }

    -- a character more of this row or one above it
    pub row_on : (start now later : S) (text : Text ℕ) (reader next : Reading) (org w row at r column : ℕ)
        (line more : List ShownCell) (c : ℕ × Look) (count r' column' : ℕ)
        → IsRowSoFar start now text reader org w row at r column line → r ≤ row → at < length text
        → (honest now → slice_get (contents (characters now) reader.text) reader.position ≡ Some c)
        → next.position ≡ reader.position + 1 → next.text ≡ reader.text
        → OnlyReads characters failures honest same_ground now later → failures later ≡ failures now
        → count ≡ cond (r == row) (cells_taken column c.0) 0
        → more ≡ take w (line ++ replicate count (c.0, c.1, at))
        → r' ≡ cond (is_return c.0) (r + 1) r → column' ≡ cond (is_return c.0) 0 (column_after column c.0)
        → IsRowSoFar start later text next org w row (at + 1) r' column' more
    row_on start now later text reader next org w row at r column line more c count r' column' is high low there p t
        reads calm many filled to_row to_column =
        let from = is.from in
        let here : IsOfText text org (c.0, c.1, at) = record { from = from; within = low } in
        record {
          placed = placed_on characters failures honest same_ground ground_self ground_through start now later text
              reader next org at r column c.0 is.placed from
              (λ h. byte_there (characters now) reader.text reader.position c (there h))
              p t reads calm r' column' to_row to_column;
          from = (let le : org ≤ at + 1 = omega (arith, from) in le);
          within = (let le : at + 1 ≤ length text = omega (arith, low) in le);
          passed = λ h. passed_on start text org (row + 1) at r (sym (is.placed.in_row h)) (omega (arith, high))
              (is.passed h);
          most = most_filled w _ _ filled;
          range = all_filled (IsOfText text org) w count line more (c.0, c.1, at) is.range here filled;
          cells = λ h. cells_on (contents (characters start) text) org row w at line more c count r column from
              (seen_character characters failures honest same_ground ground_self ground_through start now text reader
              at is.placed.way c there h)
              (is.placed.in_row h) (is.placed.in_column h) many (is.cells h) filled;
        }

    pub skip_begun : (start : S) (text : Text ℕ) (reader : Reading) (org next at r column : ℕ)
        → IsReadTo (honest start) (characters start) text org next reader r column → at ≡ reader.position
        → IsSkipped start start text reader org next at r column
    skip_begun start text reader org next at r column is here =
        let way = at_first characters failures honest same_ground ground_self ground_through start text reader at
        (sym here) is.same in
        begun start start text reader org next at r column way.reads way.calm is here

    -- a character more that is in a row above
    pub skip_on : (start now later : S) (text : Text ℕ) (reader next : Reading)
        (org row at r column byte r' column' : ℕ)
        → IsSkipped start now text reader org row at r column → r < row → at < length text
        → (honest now → slice_get (bytes_of_text (characters now) reader.text) reader.position ≡ Some byte)
        → next.position ≡ reader.position + 1 → next.text ≡ reader.text
        → OnlyReads characters failures honest same_ground now later → failures later ≡ failures now
        → r' ≡ cond (is_return byte) (r + 1) r → column' ≡ cond (is_return byte) 0 (column_after column byte)
        → IsSkipped start later text next org row (at + 1) r' column'
    skip_on start now later text reader next org row at r column byte r' column' is high low there p t reads calm
        to_row to_column =
        let from = is.from in
        record {
          placed = placed_on characters failures honest same_ground ground_self ground_through start now later text
              reader next org at r column byte is.placed from there p t reads calm r' column' to_row to_column;
          from = (let le : org ≤ at + 1 = omega (arith, from) in le);
          within = (let le : at + 1 ≤ length text = omega (arith, low) in le);
          high = rw to_row (by (is_return byte));
          passed = λ h. passed_on start text org row at r (sym (is.placed.in_row h)) high (is.passed h);
        }
      where
        by : (b : Bool) → cond b (r + 1) r ≤ row
        by true = (let le : r + 1 ≤ row = omega (arith, high) in le)
        by false = (let le : r ≤ row = omega (arith, high) in le)
