-- Ends of lines, counted stretch after stretch.
use Rattle.std.specs.Prelude.{◌≡◌, ℕ, ◌+◌, ◌-◌, ◌<◌, ◌≤◌, cond, Option, None, IfSome, List}
use Rattle.std.specs.Prelude.{Bool, true, false, Some, count_by, slice_range}
use Rattle.std.proofs.Common.{refl, sym, ap, ◌∙◌, inl, inr, arith}
use Rattle.std.proofs.lemmas.Bool.Decides.{eqb_tells}
use Rattle.char_file.specs.Source.{OnlyReads}
use Rattle.char_file.proofs.Reading.{no_read, read_on}
use Rattle.piece_ring.specs.Text.{Text}
use Rattle.readers_scanners.specs.Reading.{bytes_of_text, Reading, IsPassedOver}
use Rattle.readers_scanners.proofs.Walking.{IsAt}
use Rattle.readers_scanners.proofs.Counting.{counts_on}
use Rattle.event_bytes.specs.Bytes.{carriage_return}
use Rattle.text_frames.specs.Lines.{is_return, ends_between}
use Rattle.text_frames.specs.Reading.{IsRowBelow}

-- those of a stretch more
pub ends_on : (bs : List ℕ) (org p n : ℕ) → org ≤ p
    → ends_between bs org (p + n) ≡ ends_between bs org p + count_by is_return (slice_range bs p (p + n))
ends_on bs org p n from = counts_on is_return bs org p n from

-- lines that are left to end, after a byte
module _ (left left' : ℕ) (some : 0 < left) where
  pub left_on : (b : Bool) (ends ends' rows : ℕ) → left' ≡ left - cond b 1 0 → cond b (ends + 1) ends ≡ ends'
      → ends + left ≡ rows → ends' + left' ≡ rows
  left_on true ends ends' rows e more all = omega (arith, some, e, more, all)
  left_on false ends ends' rows e more all = omega (arith, some, e, more, all)

  pub left_few : (b : Bool) (low at : ℕ) → left' ≡ left - cond b 1 0 → low ≤ at + left → low ≤ at + 1 + left'
  left_few true low at e few = (let le : low ≤ at + 1 + left' = omega (arith, some, e, few) in le)
  left_few false low at e few = (let le : low ≤ at + 1 + left' = omega (arith, some, e, few) in le)

  pub left_none : (b : Bool) → left' ≡ left - cond b 1 0 → left' ≡ 0 → b ≡ true
  left_none true e none = refl
  left_none false e none = absurd (let bad : ⊥ = omega (arith, some, e, none) in bad)

pub return_is : (byte : ℕ) → is_return byte ≡ true → byte ≡ carriage_return
return_is byte is = elim (eqb_tells byte carriage_return) [
  | inl same ↦ same.1
  | inr other ↦ let bad : true ≡ false = sym is ∙ other.0 in absurd (let wrong : ⊥ = cc in wrong)
]

-- a row further down, counted in two steps
module _ (bs : List ℕ) (from at ends more rows : ℕ) (low : from ≤ at) (so_far : ends ≡ ends_between bs from at)
    (sum : ends + more ≡ rows) where
  rows_on : (p : ℕ) → at + more ≤ p → IsRowBelow bs at more p → IsRowBelow bs from rows p
  rows_on p far is =
      let on = ends_on bs from at (p - at) low in
      let to : at + (p - at) ≡ p = omega (arith, far) in
      let all : ends_between bs from p ≡ ends_between bs from at + ends_between bs at p =
      ap (ends_between bs from) (sym to) ∙ on ∙ ap (λ k. ends_between bs from at + ends_between bs at k) to in
      let rest = is.below in
      record { below = omega (arith, all, so_far, rest, sum); behind = is.behind }

  pub rows_on_if : (long : ℕ) (found : Option Reading)
      → IfSome found (λ row. (at + more ≤ row.position) × (row.position ≤ long))
      → IfSome found (λ row. IsRowBelow bs at more row.position)
      → IfSome found (λ row. IsRowBelow bs from rows row.position)
  rows_on_if long None range is = tt
  rows_on_if long (Some row) range is = rows_on row.position range.0 is

pub farther : (a b long : ℕ) (found : Option Reading) → a ≤ b
    → IfSome found (λ row. (b ≤ row.position) × (row.position ≤ long))
    → IfSome found (λ row. (a ≤ row.position) × (row.position ≤ long))
farther a b long None less range = tt
farther a b long (Some row) less range =
    let far = range.0 in ((let le : a ≤ row.position = omega (arith, less, far) in le), range.1)

module _ {S : Type 0} (characters : S → List ℕ) (failures : S → ℕ) (honest : S → Type 0) (same_ground : S → S
    → Type 0) (ground_through : (a b c : S) → same_ground a b → same_ground b c → same_ground a c)
    (start now : S) (text : Text ℕ) (reader : Reading) (at : ℕ)
    (is : IsAt characters failures honest same_ground start now text reader at) where
  -- n characters further on
  pub onward_by : (later : S) (next : Reading) (n p : ℕ) → next.position ≡ reader.position + n → p ≡ at + n
      → next.text ≡ reader.text → OnlyReads characters failures honest same_ground now later
      → failures later ≡ failures now → IsAt characters failures honest same_ground start later text next p
  onward_by later next n p place e t reads calm = record {
    place = omega (arith, place, is.place, e);
    same = t ∙ is.same;
    reads = read_on characters failures honest same_ground ground_through start now later is.reads reads;
    calm = calm ∙ is.calm;
  }

  -- and the lines that end there
  pub ends_by : (org n count ends new p : ℕ) → org ≤ at
      → (honest now → count
      ≡ ends_between (bytes_of_text (characters now) reader.text) reader.position (reader.position + n))
      → p ≡ at + n
      → (honest start → ends ≡ ends_between (bytes_of_text (characters start) text) org at) → new ≡ ends + count
      → honest start → new ≡ ends_between (bytes_of_text (characters start) text) org p
  ends_by org n count ends new p from counted e so_far sum h =
      let here : count ≡ count_by is_return (slice_range (bytes_of_text (characters start) text) at (at + n)) =
      counted (is.reads.still h)
      ∙ (λ k. count_by is_return (slice_range (bytes_of_text (is.reads.same h k) (is.same k)) (is.place k) (is.place k + n))) in
      sum ∙ (λ k. so_far h k + here k) ∙ sym (ends_on (bytes_of_text (characters start) text) org at n from)
      ∙ ap (ends_between (bytes_of_text (characters start) text) org) (sym e)

  -- what was passed with no read
  module _ (ground_self : (s : S) → same_ground s s) (next : Reading) (bound limit n count : ℕ)
      (passed : IsPassedOver (honest now) (characters now) reader next carriage_return bound limit (n, count)) where
    pub past_known : (p : ℕ) → p ≡ at + n → IsAt characters failures honest same_ground start now text next p
    past_known p e = onward_by now next n p passed.moves e passed.same
        (no_read characters failures honest same_ground ground_self now) refl

    pub ends_known : (org ends new p : ℕ) → org ≤ at → p ≡ at + n
        → (honest start → ends ≡ ends_between (bytes_of_text (characters start) text) org at) → new ≡ ends + count
        → honest start → new ≡ ends_between (bytes_of_text (characters start) text) org p
    ends_known org ends new p from e = ends_by org n count ends new p from passed.exact e
