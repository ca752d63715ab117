-- What loops over lines and rows keep, and ways by their cases.
use Rattle.std.specs.Prelude.{◌≡◌, ℕ, zero, suc, ◌+◌, ◌-◌, ◌<◌, ◌≤◌, ◌&&◌, nat_le, nat_lt, Bool, true, false}
use Rattle.std.specs.Prelude.{cond, if◌then◌else◌, List, Option, Some, None}
use Rattle.std.proofs.Common.{refl, sym, ap, subst, ◌∙◌, arith}
use Rattle.std.proofs.lemmas.Bool.{lt-leb, le-leb, lt-ltb, le-ltb}
use Rattle.text_frames.specs.Lines.{greatest_where, begins_line, line_start, line_above, ends_between}
use Rattle.text_frames.specs.Cells.{position_at}
use Rattle.text_frames.proofs.Greatest.{starts}
use Rattle.desk_input.specs.declared.way.Way.{Way}
use Rattle.desk_input.specs.Lines.{start_below, line_below, share_start, lines_in_sight, way_by_share, way_or, way_to}
use Rattle.desk_input.proofs.LineLaws.{start_itself}

-- ---- lines down

pub below_next : (bs : List ℕ) (n m p q : ℕ) → n ≡ m + 1 → q ≡ start_below bs p → line_below bs n p ≡ line_below bs m q
below_next bs n m p q e is =
    ap (λ (k : ℕ). line_below bs k p) (let more : n ≡ suc m = omega (arith, e) in more)
    ∙ ap (line_below bs m) (sym is)

pub below_last : (bs : List ℕ) (n p : ℕ) → n ≡ 0 → line_start bs p ≡ line_below bs n p
below_last bs n p e = ap (λ (k : ℕ). line_below bs k p) (sym e)

-- below the last line there is no other
pub below_stays : (bs : List ℕ) (n p : ℕ) → p ≡ start_below bs p → line_below bs n p ≡ p
below_stays bs zero p is = start_itself bs p
    (subst (λ (q : ℕ). begins_line bs q ≡ true) (sym is) (starts bs (position_at bs p 0 1)))
below_stays bs (suc n) p is = ap (line_below bs n) (sym is) ∙ below_stays bs n p is

-- ---- lines up

-- above the first line there is no other
pub above_first : (bs : List ℕ) (n p : ℕ) → 0 ≡ line_start bs p → line_above bs n p ≡ 0
above_first bs zero p is = sym is
above_first bs (suc n) p is = ap (λ (s : ℕ). line_above bs n (s - 1)) (sym is) ∙ above_first bs n 0 refl

-- ---- rows

pub greatest_not : (test : ℕ → Bool) (n m : ℕ) → n ≡ m + 1 → test n ≡ false → greatest_where test n ≡ greatest_where test m
greatest_not test n m e not =
    let more : n ≡ suc m = omega (arith, e) in
    ap (greatest_where test) more
    ∙ ap (λ (b : Bool). cond b (suc m) (greatest_where test m)) (ap test (sym more) ∙ not)

pub greatest_here : (test : ℕ → Bool) (n : ℕ) → test n ≡ true → n ≡ greatest_where test n
greatest_here test zero is = refl
greatest_here test (suc m) is = ap (λ (b : Bool). cond b (suc m) (greatest_where test m)) (sym is)

abbrev at_share : List ℕ → ℕ → ℕ → ℕ → Bool
at_share bs h t row = nat_le (share_start bs h row) t

module _ (bs : List ℕ) (h t n start : ℕ) (is : start ≡ share_start bs h n) where
  pub row_found : start ≤ t → n ≡ greatest_where (λ row. nat_le (share_start bs h row) t) n
  row_found low = greatest_here (at_share bs h t) n
      (le-leb (share_start bs h n) t (let l : share_start bs h n ≤ t = omega (arith, is, low) in l))

  pub row_passed : (m : ℕ) → n ≡ m + 1 → t < start → greatest_where (λ row. nat_le (share_start bs h row) t) n
      ≡ greatest_where (λ row. nat_le (share_start bs h row) t) m
  row_passed m e high = greatest_not (at_share bs h t) n m e
      (lt-leb (share_start bs h n) t (let l : t < share_start bs h n = omega (arith, is, high) in l))

-- ---- a line in sight

module _ (bs : List ℕ) (h org t : ℕ) where
  pub sight_above : t < org → None ≡ lines_in_sight bs h org t
  sight_above above = ap
      (λ (b : Bool). if b && nat_lt (ends_between bs org t) h then Some (ends_between bs org t) else None)
      (sym (lt-leb org t above))

  pub sight_within : (lines : ℕ) → org ≤ t → lines ≡ ends_between bs org t → lines < h
      → Some lines ≡ lines_in_sight bs h org t
  sight_within lines from is low =
      let few : ends_between bs org t < h = omega (arith, is, low) in
      ap (λ (n : ℕ). Some n) is
      ∙ (λ k. if sym (le-leb org t from) k && sym (lt-ltb (ends_between bs org t) h few) k
      then Some (ends_between bs org t) else None)

  pub sight_below : (lines : ℕ) → org ≤ t → lines ≡ ends_between bs org t → h ≤ lines → None ≡ lines_in_sight bs h org t
  sight_below lines from is high =
      let many : h ≤ ends_between bs org t = omega (arith, is, high) in
      λ k. if sym (le-leb org t from) k && sym (le-ltb (ends_between bs org t) h many) k
      then Some (ends_between bs org t) else None

  pub way_near : (lines : ℕ) → Some lines ≡ lines_in_sight bs h org t
      → (let way : Way = record { share = None; lines = lines } in way) ≡ way_to bs h org t
  unfolding way_to
  way_near lines is = ap (λ (o : Option ℕ). way_or o (way_by_share bs h t)) is

  pub way_far : None ≡ lines_in_sight bs h org t → way_by_share bs h t ≡ way_to bs h org t
  unfolding way_to
  way_far is = ap (λ (o : Option ℕ). way_or o (way_by_share bs h t)) is
