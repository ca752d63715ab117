-- Lines of a text by the places where they start: which stand below which, and what is wished of them.
use Rattle.std.specs.Prelude.{◌≡◌, ℕ, zero, suc, ◌+◌, ◌-◌, ◌*◌, ◌/◌, ◌<◌, ◌≤◌, Bool, true, false, cond, nat_le, List}
use Rattle.std.specs.Prelude.{length, drop, slice_index}
use Rattle.std.proofs.Common.{refl, sym, ap, subst, ◌∙◌, inl, inr, arith}
use Rattle.std.proofs.lemmas.Bool.{leb-true}
use Rattle.std.proofs.lemmas.Bool.Decides.{leb_tells}
use Rattle.std.proofs.lemmas.Option.{slice_get-get_or}
use Rattle.text_frames.specs.Lines.{is_return, ends_line, begins_line, line_start, line_above, ends_between}
use Rattle.text_frames.specs.Cells.{column_in, column_of, row_start, stands_by, position_at}
use Rattle.text_frames.specs.Row.{cells_taken}
use Rattle.text_frames.specs.Cells.{column_after}
use Rattle.text_frames.specs.Positions.{IsAtCell}
use Rattle.text_frames.proofs.Above.{ends_before, ends_within}
use Rattle.text_frames.proofs.AtCells.{at_cell_only}
use Rattle.text_frames.proofs.Ends.{ends_on}
use Rattle.text_frames.proofs.Greatest.{is_greatest, greatest_within, starts}
use Rattle.text_frames.proofs.Placing.{further}
use Rattle.desk_core.proofs.PositionLemmas.{share_within}
use Rattle.desk_input.specs.declared.wish.Wish.{Wish}
use Rattle.desk_input.specs.declared.wish.Wish.TheVariants.{Up, Down, PageUp, PageDown, Line}
use Rattle.desk_input.specs.Lines.{start_below, line_below, wished, share_start, share_row}

-- a place where a line begins is where its line starts
pub start_itself : (bs : List ℕ) (t : ℕ) → begins_line bs t ≡ true → line_start bs t ≡ t
start_itself bs zero is = refl
start_itself bs (suc k) is = ap (λ (b : Bool). cond b (suc k) (line_start bs k)) is

start_low : (bs : List ℕ) (p : ℕ) → line_start bs p ≤ p
start_low bs p = greatest_within (begins_line bs) p

-- ---- the start of a line is the position at the first cell of its row

module _ (bs : List ℕ) (a t : ℕ) (from : a ≤ t) (begins : begins_line bs t ≡ true) where
  at_first : column_of bs a t ≡ 0
  at_first =
      let own = start_itself bs t begins in
      let first : row_start bs a t ≡ t = omega (arith, own, from) in
      ap (λ (k : ℕ). column_in (drop (row_start bs a t) bs) k)
      (let none : t - row_start bs a t ≡ 0 = omega (arith, first) in none)

  at_start : (n : ℕ) → t ≤ length bs → ends_between bs a t ≡ n → IsAtCell bs a 0 n t
  at_start n within ends = elim (leb_tells (suc t) (length bs)) [
    | inl lt ↦
        let less : t < length bs = omega (arith, lt.1) in
        (elim (is_return (slice_index bs t)) as
        (λ (b : Bool). is_return (slice_index bs t) ≡ b → IsAtCell bs a 0 n t) [
          | true ↦ λ is. inr (inl (record {
            end = inr (ap ends_line (slice_get-get_or bs t 0 less) ∙ is);
            in_row = ends;
            before = omega (arith, at_first);
          }))
          | false ↦ λ is.
              let c : ℕ = column_of bs a t in
              let byte : ℕ = slice_index bs t in
              let taken : cells_taken c byte ≡ column_after c byte - c =
              ap (λ (x : Bool). cond x 0 (column_after c byte - c)) is in
              let more = further c byte in
              inl (record {
                within = less;
                in_row = ends;
                begins = omega (arith, at_first);
                ends = omega (arith, taken, more, at_first);
              })
        ]) refl
    | inr past ↦ inr (inl (record {
      end = inl (omega (arith, past.1, within));
      in_row = ends;
      before = omega (arith, at_first);
    }))
  ]

  pub line_at : (n : ℕ) → t ≤ length bs → ends_between bs a t ≡ n → t ≡ position_at bs a 0 n
  line_at n within ends = at_cell_only bs a 0 n t (from, at_start n within ends)

-- ---- a line on the way down

-- The line that starts at p stands n lines below a, and not below t.
pub record IsOnWay (bs : List ℕ) (a t n p : ℕ) : Type 0 where
  pub from : a ≤ p
  pub upto : p ≤ t
  pub begins : begins_line bs p ≡ true
  pub ends : ends_between bs a p ≡ n

module _ (bs : List ℕ) (a k n : ℕ) (less : k < length bs) (from : a ≤ k) where
  one_more : (b : Bool) → is_return (slice_index bs k) ≡ b
      → cond b (ends_between bs a k + 1) (ends_between bs a k) ≡ ends_between bs a (suc k)
  one_more b is =
      ap (λ (x : Bool). cond x (ends_between bs a k + 1) (ends_between bs a k)) (sym is)
      ∙ ends_within bs a k (slice_index bs k) (slice_get-get_or bs k 0 less) from
      ∙ ap (ends_between bs a) (let e : k + 1 ≡ suc k = omega arith in e)

  by_last : (b : Bool) → is_return (slice_index bs k) ≡ b → ends_between bs a k < n → n ≤ ends_between bs a (suc k)
      → IsOnWay bs a (suc k) n (suc k)
  by_last true is few enough = record {
    from = omega (arith, from);
    upto = omega arith;
    begins = ap ends_line (slice_get-get_or bs k 0 less) ∙ is;
    ends = (let e = one_more true is in omega (arith, e, few, enough));
  }
  by_last false is few enough = absurd (let e = one_more false is in let no : ⊥ = omega (arith, e, few, enough) in no)

pub on_way : (bs : List ℕ) (a t n : ℕ) → t ≤ length bs → 0 < n → n ≤ ends_between bs a t
    → (p : ℕ) × IsOnWay bs a t n p
on_way bs a zero n within some enough =
    absurd (let none = ends_before bs a 0 (omega arith) in let no : ⊥ = omega (arith, none, some, enough) in no)
on_way bs a (suc k) n within some enough = elim (leb_tells (suc k) a) [
  | inl high ↦ absurd (let none = ends_before bs a (suc k) high.1 in
      let no : ⊥ = omega (arith, none, some, enough) in no)
  | inr low ↦
      let from : a ≤ k = omega (arith, low.1) in
      let less : k < length bs = omega (arith, within) in
      elim (leb_tells n (ends_between bs a k)) [
        | inl more ↦
            let found = on_way bs a k n (omega (arith, within)) some more.1 in (
              found.0,
              record {
                from = found.1.from;
                upto = (let u = found.1.upto in omega (arith, u));
                begins = found.1.begins;
                ends = found.1.ends;
              },
            )
        | inr fewer ↦ (suc k, by_last bs a k n less from (is_return (slice_index bs k)) refl fewer.1 enough)
      ]
]

-- lines that end from a place on, and those from a later one on
pub ends_split : (bs : List ℕ) (a p t : ℕ) → a ≤ p → p ≤ t
    → ends_between bs a t ≡ ends_between bs a p + ends_between bs p t
ends_split bs a p t from upto =
    subst (λ (k : ℕ). ends_between bs a k ≡ ends_between bs a p + ends_between bs p k)
    (let e : p + (t - p) ≡ t = omega (arith, upto) in e) (ends_on bs a p (t - p) from)

-- where no line ends up to the start of one, it is the same place
pub no_ends : (bs : List ℕ) (a t : ℕ) → a ≤ t → t ≤ length bs → begins_line bs t ≡ true → ends_between bs a t ≡ 0
    → a ≡ t
no_ends bs a zero from within begins none = omega (arith, from)
no_ends bs a (suc k) from within begins none = elim (leb_tells (suc k) a) [
  | inl high ↦ omega (arith, high.1, from)
  | inr low ↦
      let less : k < length bs = omega (arith, within) in
      let here : is_return (slice_index bs k) ≡ true = sym (ap ends_line (slice_get-get_or bs k 0 less)) ∙ begins in
      let more = one_more bs a k 0 less (omega (arith, low.1)) true here in
      absurd (let no : ⊥ = omega (arith, more, none) in no)
]

-- ---- what is wished starts a line of the text

pub above_begins : (bs : List ℕ) (n p : ℕ) → begins_line bs (line_above bs n p) ≡ true
above_begins bs zero p = starts bs p
above_begins bs (suc n) p = above_begins bs n (line_start bs p - 1)

pub above_low : (bs : List ℕ) (n p : ℕ) → line_above bs n p ≤ p
above_low bs zero p = start_low bs p
above_low bs (suc n) p =
    let rest = above_low bs n (line_start bs p - 1) in let low = start_low bs p in omega (arith, rest, low)

pub below_start_within : (bs : List ℕ) (p : ℕ) → start_below bs p ≤ length bs
below_start_within bs p =
    let low = start_low bs (position_at bs p 0 1) in
    let within : position_at bs p 0 1 ≤ length bs = greatest_within (stands_by bs p 0 1) (length bs) in omega (arith, low, within)

pub below_begins : (bs : List ℕ) (n p : ℕ) → begins_line bs (line_below bs n p) ≡ true
below_begins bs zero p = starts bs p
below_begins bs (suc n) p = below_begins bs n (start_below bs p)

pub below_within : (bs : List ℕ) (n p : ℕ) → p ≤ length bs → line_below bs n p ≤ length bs
below_within bs zero p within = let low = start_low bs p in omega (arith, low, within)
below_within bs (suc n) p within = below_within bs n (start_below bs p) (below_start_within bs p)

pub wished_begins : (bs : List ℕ) (h org : ℕ) (wish : Wish) → begins_line bs (wished bs h org wish) ≡ true
unfolding wished
wished_begins bs h org (Up n) = above_begins bs n org
wished_begins bs h org (Down n) = below_begins bs n org
wished_begins bs h org PageUp = above_begins bs (h - 1) org
wished_begins bs h org PageDown = below_begins bs (h - 1) org
wished_begins bs h org (Line n) = below_begins bs n 0

up_within : (bs : List ℕ) (n p : ℕ) → p ≤ length bs → line_above bs n p ≤ length bs
up_within bs n p within = let low = above_low bs n p in omega (arith, low, within)

pub wished_within : (bs : List ℕ) (h org : ℕ) (wish : Wish) → org ≤ length bs → wished bs h org wish ≤ length bs
unfolding wished
wished_within bs h org (Up n) within = up_within bs n org within
wished_within bs h org (Down n) within = below_within bs n org within
wished_within bs h org PageUp within = up_within bs (h - 1) org within
wished_within bs h org PageDown within = below_within bs (h - 1) org within
wished_within bs h org (Line n) within = below_within bs n 0 (omega arith)

-- ---- where the middle button comes to

none_shared : (h : ℕ) → 0 * 0 / h ≡ 0
none_shared zero = refl
none_shared (suc k) = let low = share_within 0 0 (suc k) (omega arith) in omega (arith, low)

pub share_first : (bs : List ℕ) (h : ℕ) → share_start bs h 0 ≡ 0
share_first bs h =
    let none : length bs * 0 ≡ 0 * 0 = omega arith in
    ap (line_start bs) (ap (λ (n : ℕ). n / h) none ∙ none_shared h)

pub share_inside : (bs : List ℕ) (h row : ℕ) → row < h → share_start bs h row ≤ length bs
share_inside bs h row low =
    let start = start_low bs (length bs * row / h) in
    let within = share_within (length bs) row h low in omega (arith, start, within)

pub share_low : (bs : List ℕ) (h t : ℕ) → share_start bs h (share_row bs h t) ≤ t
share_low bs h t = elim (is_greatest (λ row. nat_le (share_start bs h row) t) (h - 1)).passes [
  | inl first ↦
      let none = ap (share_start bs h) first ∙ share_first bs h in omega (arith, none)
  | inr is ↦ leb-true _ _ is
]

pub share_row_low : (bs : List ℕ) (h t : ℕ) → 0 < h → share_row bs h t < h
share_row_low bs h t some =
    let low = greatest_within (λ row. nat_le (share_start bs h row) t) (h - 1) in omega (arith, low, some)
