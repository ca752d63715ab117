-- Rows of a frame in which the line of a position is in sight, and the position at its own cell.
use Rattle.std.specs.Prelude.{◌≡◌, ℕ, zero, suc, ◌+◌, ◌-◌, ◌<◌, ◌≤◌, ◌⊎◌, ◌&&◌, nat_lt, min, Bool, true, false, cond}
use Rattle.std.specs.Prelude.{if◌then◌else◌, List, length, slice_index, Option, Some, None, unwrap_or}
use Rattle.std.proofs.Common.{refl, sym, ap, ◌∙◌, inl, inr, arith}
use Rattle.std.proofs.lemmas.Bool.{le-leb, leb-true, lt-ltb, and_parts}
use Rattle.std.proofs.lemmas.Bool.Decides.{leb_tells}
use Rattle.std.proofs.lemmas.Option.{slice_get-get_or}
use Rattle.text_frames.specs.Lines.{is_return, ends_line, begins_line, line_start, line_above, ends_between}
use Rattle.text_frames.specs.Cells.{column_after, column_of, row_of, row_start, position_at}
use Rattle.text_frames.specs.Row.{cells_taken}
use Rattle.text_frames.specs.Near.{below}
use Rattle.text_frames.specs.Positions.{IsAtCell}
use Rattle.text_frames.specs.Rules.{is_in_rows}
use Rattle.text_frames.proofs.Above.{ends_before, ends_within}
use Rattle.text_frames.proofs.AtCells.{at_cell_only}
use Rattle.text_frames.proofs.Greatest.{greatest_within, starts}
use Rattle.text_frames.proofs.Placing.{further}
use Rattle.desk_input.specs.Lines.{lines_in_sight}
use Rattle.desk_input.proofs.LineLaws.{above_begins, above_low, ends_split}
use Rattle.caret_moves.specs.Steps.{column_cut, org_for, landing}

pub start_low : (bs : List ℕ) (p : ℕ) → line_start bs p ≤ p
start_low bs p = greatest_within (begins_line bs) p

-- ---- no line ends between the start of a line and a place in it

at_most : (b : Bool) (n m : ℕ) → cond b (n + 1) n ≡ m → m ≤ n + 1
at_most true n m is = omega (arith, is)
at_most false n m is = omega (arith, is)

module _ (bs : List ℕ) (k org : ℕ) (less : k < length bs) (from : org ≤ k) where
  one_end : cond (is_return (slice_index bs k)) (ends_between bs org k + 1) (ends_between bs org k)
      ≡ ends_between bs org (k + 1)
  one_end = ends_within bs org k (slice_index bs k) (slice_get-get_or bs k 0 less) from

  same_line : begins_line bs (suc k) ≡ false → ends_between bs org (suc k) ≡ ends_between bs org k
  same_line other =
      let here : is_return (slice_index bs k) ≡ false = sym (ap ends_line (slice_get-get_or bs k 0 less)) ∙ other in
      ap (ends_between bs org) (let e : suc k ≡ k + 1 = omega arith in e)
      ∙ sym (sym (ap (λ (b : Bool). cond b (ends_between bs org k + 1) (ends_between bs org k)) here) ∙ one_end)

pub own_line : (bs : List ℕ) (p : ℕ) → p ≤ length bs → ends_between bs (line_start bs p) p ≡ 0
own_line bs zero within = ends_before bs 0 0 (omega arith)
own_line bs (suc k) within = (elim (begins_line bs (suc k)) as (λ (b : Bool). begins_line bs (suc k) ≡ b
    → ends_between bs (cond b (suc k) (line_start bs k)) (suc k) ≡ 0) [
      | true ↦ λ is. ends_before bs (suc k) (suc k) (omega arith)
      | false ↦ λ other. same_line bs k (line_start bs k) (omega (arith, within)) (start_low bs k) other
          ∙ own_line bs k (omega (arith, within))
    ]) refl

pub own_row : (bs : List ℕ) (org p : ℕ) → org ≤ p → p ≤ length bs → ends_between bs (row_start bs org p) p ≡ 0
own_row bs org p from within =
    let low = start_low bs p in
    let own = own_line bs p within in
    let all = ends_split bs (line_start bs p) (row_start bs org p) p (omega arith) (omega (arith, low, from)) in
    omega (arith, own, all)

pub row_low : (bs : List ℕ) (org p : ℕ) → org ≤ p → row_start bs org p ≤ p
row_low bs org p from = let low = start_low bs p in omega (arith, low, from)

-- ---- lines above

pub above_rows : (bs : List ℕ) (n p : ℕ) → p ≤ length bs → ends_between bs (line_above bs n p) p ≤ n
above_rows bs zero p within = let own = own_line bs p within in omega (arith, own)
above_rows bs (suc n) p within =
    let s : ℕ = line_start bs p in
    let q : ℕ = s - 1 in
    let a : ℕ = line_above bs n q in
    let low : s ≤ p = start_low bs p in
    let a_low : a ≤ q = above_low bs n q in
    let own : ends_between bs s p ≡ 0 = own_line bs p within in
    elim (leb_tells 1 s) [
      | inl some ↦
          let first : 1 ≤ s = some.1 in
          let back : q + 1 ≡ s = omega (arith, first) in
          let rest : ends_between bs a q ≤ n = above_rows bs n q (omega (arith, low, within)) in
          let one : ends_between bs a (q + 1) ≤ ends_between bs a q + 1 =
          at_most (is_return (slice_index bs q)) (ends_between bs a q) (ends_between bs a (q + 1))
          (one_end bs q a (omega (arith, low, within, first)) a_low) in
          let upto : ends_between bs a (q + 1) ≡ ends_between bs a s = ap (ends_between bs a) back in
          let all : ends_between bs a p ≡ ends_between bs a s + ends_between bs s p =
          ends_split bs a s p (omega (arith, a_low, back)) low in
          omega (arith, rest, one, upto, all, own)
      | inr none ↦
          let first : s < 1 = none.1 in
          let same : a ≡ s = omega (arith, a_low, first) in
          let is : ends_between bs a p ≡ ends_between bs s p = ap (λ (k : ℕ). ends_between bs k p) same in
          omega (arith, is, own)
    ]

-- ---- the line is in sight

in_rows_by : (bs : List ℕ) (h org p : ℕ) → org ≤ p → ends_between bs org p < h → is_in_rows bs h org p ≡ true
in_rows_by bs h org p from few = λ k. le-leb org p from k && lt-ltb (ends_between bs org p) h few k

module _ (bs : List ℕ) (h org p : ℕ) (within : p ≤ length bs) where
  pub org_shown : 0 < h → is_in_rows bs h (org_for bs h org p) p ≡ true
  org_shown some = (elim (is_in_rows bs h org p) as (λ (b : Bool). is_in_rows bs h org p ≡ b
      → is_in_rows bs h (if b then org else (if nat_lt p org then line_start bs p else line_above bs (h - 1) p)) p ≡ true) [
        | true ↦ λ is. is
        | false ↦ λ is. elim (nat_lt p org) as (λ (b : Bool). is_in_rows bs h
            (if b then line_start bs p else line_above bs (h - 1) p) p ≡ true) [
              | true ↦ in_rows_by bs h (line_start bs p) p (start_low bs p)
                  (let own = own_line bs p within in omega (arith, own, some))
              | false ↦ in_rows_by bs h (line_above bs (h - 1) p) p (above_low bs (h - 1) p)
                  (let few = above_rows bs (h - 1) p within in omega (arith, few, some))
            ]
      ]) refl

  pub org_from : org_for bs h org p ≤ p
  org_from = (elim (is_in_rows bs h org p) as (λ (b : Bool). is_in_rows bs h org p ≡ b
      → (if b then org else (if nat_lt p org then line_start bs p else line_above bs (h - 1) p)) ≤ p) [
        | true ↦ λ is. leb-true org p (and_parts _ _ is).0
        | false ↦ λ is. elim (nat_lt p org) as (λ (b : Bool). (if b then line_start bs p else line_above bs (h - 1) p) ≤ p) [
          | true ↦ start_low bs p
          | false ↦ above_low bs (h - 1) p
        ]
      ]) refl

  pub org_begins : (org_for bs h org p ≡ org) ⊎ (begins_line bs (org_for bs h org p) ≡ true)
  org_begins = elim (is_in_rows bs h org p) as (λ (b : Bool).
      ((if b then org else (if nat_lt p org then line_start bs p else line_above bs (h - 1) p)) ≡ org)
      ⊎ (begins_line bs (if b then org else (if nat_lt p org then line_start bs p else line_above bs (h - 1) p)) ≡ true)) [
        | true ↦ inl refl
        | false ↦ inr (elim (nat_lt p org) as (λ (b : Bool).
            begins_line bs (if b then line_start bs p else line_above bs (h - 1) p) ≡ true) [
              | true ↦ starts bs p
              | false ↦ above_begins bs (h - 1) p
            ])
      ]

pub sight_is : (bs : List ℕ) (h org p : ℕ) → is_in_rows bs h org p ≡ true
    → unwrap_or (lines_in_sight bs h org p) 0 ≡ row_of bs org p
sight_is bs h org p is =
    ap (λ (b : Bool). let o : Option ℕ = if b then Some (ends_between bs org p) else None in unwrap_or o 0) is

-- ---- a position is the one at its own cell

module _ (bs : List ℕ) (org p : ℕ) (from : org ≤ p) (within : p ≤ length bs) where
  own_cell : IsAtCell bs org (column_of bs org p) (row_of bs org p) p
  own_cell = elim (leb_tells (suc p) (length bs)) [
    | inl lt ↦
        let less : p < length bs = omega (arith, lt.1) in
        (elim (is_return (slice_index bs p)) as (λ (b : Bool). is_return (slice_index bs p) ≡ b
        → IsAtCell bs org (column_of bs org p) (row_of bs org p) p) [
          | true ↦ λ is. inr (inl (record {
            end = inr (ap ends_line (slice_get-get_or bs p 0 less) ∙ is);
            in_row = refl;
            before = omega arith;
          }))
          | false ↦ λ is.
              let c : ℕ = column_of bs org p in
              let byte : ℕ = slice_index bs p in
              let taken : cells_taken c byte ≡ column_after c byte - c =
              ap (λ (x : Bool). cond x 0 (column_after c byte - c)) is in
              let more = further c byte in
              inl (record {
                within = less;
                in_row = refl;
                begins = omega arith;
                ends = omega (arith, taken, more);
              })
        ]) refl
    | inr past ↦ inr (inl (record {
      end = inl (omega (arith, past.1, within));
      in_row = refl;
      before = omega arith;
    }))
  ]

  pub own_there : position_at bs org (column_of bs org p) (row_of bs org p) ≡ p
  own_there = sym (at_cell_only bs org (column_of bs org p) (row_of bs org p) p (from, own_cell))

  pub lands_there : (w : ℕ) → column_of bs org p < w → landing bs w org p ≡ p
  lands_there w low =
      let uncut : column_cut bs w org p ≡ column_of bs org p = omega (arith, low) in
      ap (λ (c : ℕ). position_at bs org c (row_of bs org p)) uncut ∙ own_there

-- a column that is cut at the last one
pub cut_is : (w column : ℕ) → 0 < w → unwrap_or (below w column) (w - 1) ≡ min column (w - 1)
cut_is w column some = elim (leb_tells (suc column) w) [
  | inl lt ↦
      let low : column < w = omega (arith, lt.1) in
      ap (λ (b : Bool). let o : Option ℕ = if b then Some column else None in unwrap_or o (w - 1)) (lt-ltb column w low)
      ∙ (let e : column ≡ min column (w - 1) = omega (arith, low) in e)
  | inr ge ↦
      let high : w ≤ column = omega (arith, ge.1) in
      ap (λ (b : Bool). let o : Option ℕ = if b then Some column else None in unwrap_or o (w - 1)) ge.0
      ∙ (let e : w - 1 ≡ min column (w - 1) = omega (arith, high) in e)
]
