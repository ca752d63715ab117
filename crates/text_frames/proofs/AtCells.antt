-- The position at a cell is the one that stands there.
use Rattle.std.specs.Prelude.{◌≡◌, ◌⊎◌, ℕ, suc, ◌+◌, ◌-◌, ◌<◌, ◌≤◌, Bool, true, false, cond, ◌&&◌, ◌||◌, ◌==◌, nat_le}
use Rattle.std.specs.Prelude.{List, length, slice_index, Option, Some, None, slice_get}
use Rattle.std.proofs.Common.{refl, sym, ap, ◌∙◌, inl, inr, arith, subst}
use Rattle.std.proofs.lemmas.Option.{slice_get_within, get_or_from_slice_get, slice_get-get_or}
use Rattle.std.proofs.lemmas.Bool.Decides.{leb_tells, eqb_tells}
use Rattle.std.proofs.lemmas.Bool.{le-leb}
use Rattle.text_frames.specs.Lines.{is_return, ends_line}
use Rattle.text_frames.specs.Cells.{column_after, row_of, column_of, comes_by, stands_by, position_at}
use Rattle.text_frames.specs.Row.{cells_taken}
use Rattle.text_frames.specs.Positions.{HoldsCell, EndsBefore, IsAtCell}
use Rattle.text_frames.proofs.Greatest.{is_greatest}
use Rattle.text_frames.proofs.Placing.{row_next, column_next, greatest_is, IsBehind, not_by, is_behind, further}
use Rattle.text_frames.proofs.Placing.{stands_first, stands_at, stays_behind}

-- a cell that doesn't come after another, in numbers
abbrev ComesBy : ℕ → ℕ → ℕ → ℕ → Type 0
ComesBy column row c r = (r < row) ⊎ ((r ≡ row) × (c ≤ column))

comes : (column row c r : ℕ) → comes_by column row c r ≡ true → ComesBy column row c r
comes column row c r e = elim (leb_tells (suc r) row) [
  | inl before ↦ inl (omega (arith, before.1))
  | inr after ↦ elim (eqb_tells r row) [
    | inl same ↦ elim (leb_tells c column) [
      | inl low ↦ inr (same.1, low.1)
      | inr high ↦ let bad : false ≡ true = sym (λ k. after.0 k || (same.0 k && high.0 k)) ∙ e in
          absurd (let wrong : ⊥ = cc in wrong)
    ]
    | inr other ↦ let bad : false ≡ true = sym (λ k. after.0 k || (other.0 k && nat_le c column)) ∙ e in
        absurd (let wrong : ⊥ = cc in wrong)
  ]
]

comes_so : (column row c r : ℕ) → ComesBy column row c r → comes_by column row c r ≡ true
comes_so column row c r is = elim (leb_tells (suc r) row) [
  | inl before ↦ (λ k. before.0 k || ((r == row) && nat_le c column))
  | inr after ↦ elim is [
    | inl lt ↦ absurd (let bad : ⊥ = omega (arith, lt, after.1) in bad)
    | inr here ↦ elim (eqb_tells r row) [
      | inl same ↦ (λ k. after.0 k || (same.0 k && le-leb c column here.1 k))
      | inr other ↦ absurd (other.1 here.0)
    ]
  ]
]

-- a line that ends there ends with a character
ends_with : (bs : List ℕ) (p : ℕ) (o : Option ℕ) → slice_get bs p ≡ o → ends_line o ≡ true
    → (p < length bs) × (is_return (slice_index bs p) ≡ true)
ends_with bs p None is ends = absurd (let wrong : ⊥ = cc in wrong)
ends_with bs p (Some byte) is ends =
    (slice_get_within bs p byte is, ap is_return (get_or_from_slice_get bs p byte 0 is) ∙ ends)

module _ (bs : List ℕ) (org column row : ℕ) where
  stands_in : (p : ℕ) → org ≤ p
      → stands_by bs org column row p ≡ comes_by column row (column_of bs org p) (row_of bs org p)
  stands_in p from = stands_at bs org column row p _ _ _ from refl refl refl

  -- the position at the cell passes the test
  passes : org ≤ length bs
      → (org ≤ position_at bs org column row)
      × (stands_by bs org column row (position_at bs org column row) ≡ true)
  passes h =
      let is = is_greatest (stands_by bs org column row) (length bs) in
      let low : org ≤ position_at bs org column row = elim (leb_tells org (position_at bs org column row)) [
        | inl from ↦ from.1
        | inr above ↦ let bad : true ≡ false = sym (stands_first bs org column row) ∙ is.none_above org above.1 h in
            absurd (let wrong : ⊥ = cc in wrong)
      ] in (
        low,
        elim is.passes [
          | inl zero_is ↦ (let e : org ≡ position_at bs org column row = omega (arith, zero_is, low) in
              subst (λ k. stands_by bs org column row k ≡ true) e (stands_first bs org column row))
          | inr holds ↦ holds
        ],
      )

  -- what stands at a place after which the next one comes behind the cell
  by_byte : (p : ℕ) (b : Bool) → p < length bs → is_return (slice_index bs p) ≡ b
      → ComesBy column row (column_of bs org p) (row_of bs org p)
      → IsBehind column row (cond b 0 (column_after (column_of bs org p) (slice_index bs p)))
      (cond b (row_of bs org p + 1) (row_of bs org p)) → IsAtCell bs org column row p
  by_byte p true lt is by behind = elim by [
    | inl above ↦ absurd (let none = behind.1 (let e : row_of bs org p + 1 ≡ row = omega (arith, above, behind.0) in
        e) in let bad : ⊥ = omega (arith, none) in bad)
    | inr here ↦ inr (inl (record {
      end = inr (ap ends_line (slice_get-get_or bs p 0 lt) ∙ is);
      in_row = here.0;
      before = here.1;
    }))
  ]
  by_byte p false lt is by behind = elim by [
    | inl above ↦ absurd (let bad : ⊥ = omega (arith, above, behind.0) in bad)
    | inr here ↦
        let c : ℕ = column_of bs org p in
        let byte : ℕ = slice_index bs p in
        let more = further c byte in
        let high = behind.1 here.0 in
        let taken : cells_taken c byte ≡ column_after c byte - c = ap (λ x. cond x 0 (column_after c byte - c)) is in
        inl (record {
          within = lt;
          in_row = here.0;
          begins = here.1;
          ends = omega (arith, more, high, taken);
        })
  ]

  behind_after : (p : ℕ) → p < length bs → org ≤ p
      → IsBehind column row (column_of bs org (p + 1)) (row_of bs org (p + 1))
      → IsBehind column row (cond (is_return (slice_index bs p)) 0
      (column_after (column_of bs org p) (slice_index bs p)))
      (cond (is_return (slice_index bs p)) (row_of bs org p + 1) (row_of bs org p))
  behind_after p lt from is =
      let there = slice_get-get_or bs p 0 lt in
      subst (λ c. IsBehind column row c (cond (is_return (slice_index bs p)) (row_of bs org p + 1) (row_of bs org p)))
      (sym (column_next bs org p (slice_index bs p) there from (column_of bs org p) refl))
      (subst (λ r. IsBehind column row (column_of bs org (p + 1)) r)
      (sym (row_next bs org p (slice_index bs p) there from (row_of bs org p) refl)) is)

  found : (p : ℕ) → org ≤ p → p ≤ length bs → stands_by bs org column row p ≡ true
      → ((k : ℕ) → p < k → k ≤ length bs → stands_by bs org column row k ≡ false) → IsAtCell bs org column row p
  found p from within holds none =
      let by = comes column row (column_of bs org p) (row_of bs org p) (sym (stands_in p from) ∙ holds) in
      elim (leb_tells (suc p) (length bs)) [
        | inl lt ↦
            let less : p < length bs = omega (arith, lt.1) in
            let later = none (p + 1) (omega arith) (omega (arith, less)) in
            by_byte p (is_return (slice_index bs p)) less refl by
            (behind_after p less from (is_behind column row (column_of bs org (p + 1)) (row_of bs org (p + 1))
            (sym (stands_in (p + 1) (omega (arith, from))) ∙ later)))
        | inr past ↦
            let last : p ≡ length bs = omega (arith, past.1, within) in
            elim by [
              | inl above ↦ inr (inr (record {
                last = subst (λ k. row_of bs org k < row) last above;
                end = last;
              }))
              | inr here ↦ inr (inl (record { end = inl last; in_row = here.0; before = here.1 }))
            ]
      ]

  -- the position at a cell stands there
  pub at_cell : (p : ℕ) → org ≤ length bs → p ≡ position_at bs org column row
      → (org ≤ p) × IsAtCell bs org column row p
  at_cell p h is =
      let both = passes h in
      let greatest = is_greatest (stands_by bs org column row) (length bs) in
      subst (λ q. (org ≤ q) × IsAtCell bs org column row q) (sym is)
      (both.0, found (position_at bs org column row) both.0 greatest.within both.1 greatest.none_above)

  -- the last place of the text
  at_end : (p : ℕ) → org ≤ p → p ≡ length bs → ComesBy column row (column_of bs org p) (row_of bs org p)
      → p ≡ position_at bs org column row
  at_end p from is by =
      greatest_is (stands_by bs org column row) (length bs) p (omega (arith, is))
      (stands_in p from ∙ comes_so column row (column_of bs org p) (row_of bs org p) by)
      (λ k low high. absurd (let bad : ⊥ = omega (arith, low, high, is) in bad))

  -- a place after which the next one comes behind the cell
  before_next : (p : ℕ) (b : Bool) → org ≤ p → p < length bs → is_return (slice_index bs p) ≡ b
      → ComesBy column row (column_of bs org p) (row_of bs org p)
      → IsBehind column row (cond b 0 (column_after (column_of bs org p) (slice_index bs p)))
      (cond b (row_of bs org p + 1) (row_of bs org p)) → p ≡ position_at bs org column row
  before_next p b from lt is by behind =
      let there = slice_get-get_or bs p 0 lt in
      let next : IsBehind column row (column_of bs org (p + 1)) (row_of bs org (p + 1)) =
      subst (λ c. IsBehind column row c (row_of bs org (p + 1)))
      (column_next bs org p (slice_index bs p) there from (column_of bs org p) refl)
      (subst (λ r. IsBehind column row (cond (is_return (slice_index bs p)) 0
      (column_after (column_of bs org p) (slice_index bs p))) r)
      (row_next bs org p (slice_index bs p) there from (row_of bs org p) refl)
      (subst (λ x. IsBehind column row (cond x 0 (column_after (column_of bs org p) (slice_index bs p)))
      (cond x (row_of bs org p + 1) (row_of bs org p))) (sym is) behind)) in
      let fails : stands_by bs org column row (p + 1) ≡ false = stands_in (p + 1) (omega (arith, from))
      ∙ not_by column row (column_of bs org (p + 1)) (row_of bs org (p + 1)) next in
      greatest_is (stands_by bs org column row) (length bs) p (omega (arith, lt))
      (stands_in p from ∙ comes_so column row (column_of bs org p) (row_of bs org p) by)
      (λ k low high. stays_behind bs org column row (p + 1) k (omega (arith, from)) fails (omega (arith, low)) high)

  in_cells : (p : ℕ) (b : Bool) → org ≤ p → is_return (slice_index bs p) ≡ b → HoldsCell bs org column row p
      → p ≡ position_at bs org column row
  in_cells p true from is holds =
      let none : cells_taken (column_of bs org p) (slice_index bs p) ≡ 0 =
      ap (λ x. cond x 0 (column_after (column_of bs org p) (slice_index bs p) - column_of bs org p)) is in
      absurd (let bad : ⊥ = omega (arith, none, holds.begins, holds.ends) in bad)
  in_cells p false from is holds =
      let c : ℕ = column_of bs org p in
      let byte : ℕ = slice_index bs p in
      let taken : cells_taken c byte ≡ column_after c byte - c = ap (λ x. cond x 0 (column_after c byte - c)) is in
      let more = further c byte in
      before_next p false from holds.within is (inr (holds.in_row, holds.begins))
      (omega (arith, holds.in_row), λ e. omega (arith, taken, more, holds.ends))

  at_return : (p : ℕ) → org ≤ p → EndsBefore bs org column row p
      → (p < length bs) × (is_return (slice_index bs p) ≡ true) → p ≡ position_at bs org column row
  at_return p from ends there =
      before_next p true from there.0 there.1 (inr (ends.in_row, ends.before))
      (omega (arith, ends.in_row), λ e. absurd (let bad : ⊥ = omega (arith, e, ends.in_row) in bad))

  -- and nothing else does
  pub at_cell_only : (p : ℕ) → (org ≤ p) × IsAtCell bs org column row p → p ≡ position_at bs org column row
  at_cell_only p is = elim is.1 [
    | inl holds ↦ in_cells p (is_return (slice_index bs p)) is.0 refl holds
    | inr other ↦ elim other [
      | inl ends ↦ elim ends.end [
        | inl last ↦ at_end p is.0 last (inr (ends.in_row, ends.before))
        | inr line ↦ at_return p is.0 ends (ends_with bs p (slice_get bs p) refl line)
      ]
      | inr none ↦ at_end p is.0 none.end
          (inl (subst (λ k. row_of bs org k < row) (sym none.end) none.last))
    ]
  ]
