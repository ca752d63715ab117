-- Where cells of the display lie, and what stands there in the texts of viewers.
use Rattle.std.specs.Prelude.{◌≡◌, ◌⊎◌, ◌≤◌, ◌<◌, ℕ, zero, suc, ◌+◌, ◌*◌, ◌/◌, ◌==◌, ◌&&◌}
use Rattle.std.specs.Prelude.{nat_le, min, max, Bool, true, false}
use Rattle.std.specs.Prelude.{cond, if◌then◌else◌, List, [], length, Option, Some, None, IsSome, is_some}
use Rattle.std.specs.Option.{option_map, unwrap_or}
use Rattle.std.proofs.Common.{refl, sym, ap, subst, ◌∙◌, inl, inr, arith}
use Rattle.std.proofs.Math.Nat.{mul-le-mul_left}
use Rattle.std.proofs.lemmas.Bool.{cases_lt}
use Rattle.std.proofs.lemmas.Bool.Decides.{eqb_tells, nat_tests}
use Rattle.piece_ring.specs.declared.piece.Piece.{Piece}
use Rattle.piece_ring.specs.Flat.{flat}
use Rattle.piece_ring.specs.Text.{AreWithin}
use Rattle.readers_scanners.specs.Reading.{bytes_of_text, contents}
use Rattle.viewer_tracks.specs.Columns.{placed_top, StandsAt, IsPlaced, IsOnTop}
use Rattle.text_frames.specs.Lines.{greatest_where, line_start}
use Rattle.text_frames.specs.Cells.{row_of, column_of, comes_by, stands_by, position_at, is_inside, cell_of}
use Rattle.desktop_definitions.specs.declared.region.Region.TheVariants.{Menu, Bar, Body}
use Rattle.desktop_definitions.specs.declared.viewer.Viewer.{Viewer}
use Rattle.desktop_definitions.specs.declared.viewer.Selection.{Selection}
use Rattle.desktop_definitions.specs.Tables.{Texts, text_numbered}
use Rattle.desktop_definitions.specs.Desktop.{KeptDesktop}
use Rattle.desktop_definitions.specs.Viewers.{bare_viewer, viewer_in, viewer_or_none, text_in, rows_of, main_of}
use Rattle.desktop_definitions.specs.Change.{bytes_of}
use Rattle.desktop_definitions.specs.Gesture.{region_at, part_of, left, frame_row, IsRegionOf}
use Rattle.desktop_definitions.specs.Gesture.{text_column, text_row, text_position, stretch_drawn}
use Rattle.desktop_definitions.specs.Seen.{seen, seen_table}
use Rattle.desktop_definitions.proofs.SeenLaws.{within_counted}
use Rattle.desktop_definitions.specs.Sound.{IsBuilt, IsKeptWhole, IsOver}
use Rattle.desktop_definitions.proofs.RowLaws.{main_kept, over_built}
use Rattle.desktop_definitions.proofs.TextLaws.{text_in_seen, long_seen, text_within}
use Rattle.desk_core.specs.Mouse.{position_in, start_of_row, start_of_share}

-- ---- cells of the display

pub region_seen : (characters : List ℕ) (d : KeptDesktop) (x y : ℕ) → region_at (seen characters d) x y ≡ region_at d x y
unfolding region_at seen
region_seen characters d x y = refl

stands_in : (d : KeptDesktop) (v y : ℕ) (top first : Bool) → IsOnTop v d.columns
    → (top ≡ false → frame_row d v y < rows_of d v)
    → IsRegionOf d y (if top then Menu v else (if first then Bar v else Body v))
stands_in d v y true first placed low = placed
stands_in d v y false true placed low = (placed, low refl)
stands_in d v y false false placed low = (placed, low refl)

pub region_stands : (d : KeptDesktop) (v x y : ℕ) → StandsAt d.columns v x y → IsRegionOf d y (part_of d x y (Some v))
region_stands d v x y stands =
    stands_in d v y (y + 1 == placed_top d.columns v) (x == left d v) stands.placed
    (λ below. elim (eqb_tells (y + 1) (placed_top d.columns v)) [
      | inl here ↦ absurd (let no : true ≡ false = sym here.0 ∙ below in cc no)
      | inr other ↦ omega (arith, other.1, stands.from, stands.before)
    ])

-- ---- texts of viewers

pub main_reads : (characters : List ℕ) (d : KeptDesktop) (v : ℕ)
    → main_of (seen characters d) v ≡ contents characters (flat (text_in d.texts (viewer_or_none d.viewers v).main))
unfolding seen
main_reads characters d v = text_in_seen characters d.texts (viewer_or_none d.viewers v).main

pub bytes_read : (characters : List ℕ) (d : KeptDesktop) (v : ℕ)
    → bytes_of (main_of (seen characters d) v)
    ≡ bytes_of_text characters (flat (text_in d.texts (viewer_or_none d.viewers v).main))
bytes_read characters d v = ap bytes_of (main_reads characters d v)

pub main_long : (characters : List ℕ) (d : KeptDesktop) (v : ℕ)
    → length (main_of (seen characters d) v) ≡ length (flat (text_in d.texts (viewer_or_none d.viewers v).main))
unfolding seen
main_long characters d v = long_seen characters d.texts (viewer_or_none d.viewers v).main

-- the main text of a viewer on the display is found
pub never_none : (d : KeptDesktop) (v : ℕ) (viewer : Viewer) → IsKeptWhole d → IsPlaced v d.columns
    → viewer ≡ viewer_or_none d.viewers v → None ≡ text_numbered d.texts viewer.main → ⊥
never_none d v viewer whole placed is none =
    let there : IsSome (text_numbered d.texts (viewer_or_none d.viewers v).main) =
    main_kept d.written d (record { within = whole.within; shaped = λ all. (whole.sound all).shaped }) v placed in
    let no : false ≡ true = ap is_some (none ∙ ap (λ (x : Viewer). text_numbered d.texts x.main) is) ∙ there in
    cc no

org_or_none : {X : Type 0} (texts : Texts (List X)) (found : Option Viewer)
    → ((x : Viewer) → found ≡ Some x → x.org ≤ length (text_in texts x.main))
    → (unwrap_or found bare_viewer).org ≤ length (text_in texts (unwrap_or found bare_viewer).main)
org_or_none texts None each = omega arith
org_or_none texts (Some x) each = each x refl

pub org_kept : (n : ℕ) (d : KeptDesktop) → IsBuilt n d → (v : ℕ)
    → (viewer_or_none d.viewers v).org ≤ length (flat (text_in d.texts (viewer_or_none d.viewers v).main))
unfolding seen
org_kept n d built v =
    let long = long_seen [] d.texts (viewer_or_none d.viewers v).main in
    let low = org_or_none (seen_table [] d.texts) (viewer_in d.viewers v)
    (λ x here. ((built.shaped []).viewers.each v x here).org) in
    omega (arith, long, low)

-- ---- rows of a frame

passes : (test : ℕ → Bool) (n : ℕ) → (greatest_where test n ≡ 0) ⊎ (test (greatest_where test n) ≡ true)
passes test zero = inl refl
passes test (suc n) = (elim (test (suc n)) as (λ b. test (suc n) ≡ b
    → (cond b (suc n) (greatest_where test n) ≡ 0) ⊎ (test (cond b (suc n) (greatest_where test n)) ≡ true)) [
      | true ↦ λ is. inr is
      | false ↦ λ is. passes test n
    ]) refl

first_by : (row : ℕ) → comes_by 0 row 0 0 ≡ true
first_by row = grind (arith, nat_tests)

first_stands : (bs : List ℕ) (row : ℕ) → stands_by bs 0 0 row 0 ≡ true
first_stands bs row = first_by row

start_stands : (bs : List ℕ) (org row : ℕ) → org ≤ position_at bs org 0 row
    → stands_by bs org 0 row (position_at bs org 0 row) ≡ true
start_stands bs org row from = elim (passes (stands_by bs org 0 row) (length bs)) [
  | inl none ↦
      let first : org ≡ 0 = omega (arith, from, none) in
      subst (λ p. stands_by bs org 0 row p ≡ true) (sym none)
      (subst (λ o. stands_by bs o 0 row 0 ≡ true) (sym first) (first_stands bs row))
  | inr is ↦ is
]

shown_by : (org p r c w h row : ℕ) → 0 < w → row < h → r ≡ row → (nat_le org p && comes_by 0 row c r) ≡ true
    → (nat_le org p && is_inside w h c r) ≡ true
shown_by org p r c w h row wide high same by = grind (arith, nat_tests)

in_row_by : (org p r c w h row : ℕ) → 0 < w → row < h → (nat_le org p && comes_by 0 row c r) ≡ true
    → unwrap_or (option_map (λ (cell : ℕ × ℕ). cell.1 == row)
    (if nat_le org p && is_inside w h c r then Some (c, r) else None)) false ≡ (r == row)
in_row_by org p r c w h row wide high by = elim (eqb_tells r row) [
  | inl same ↦ rw (shown_by org p r c w h row wide high same.1 by) refl
  | inr other ↦ (elim (nat_le org p && is_inside w h c r) as
      (λ b. unwrap_or (option_map (λ (cell : ℕ × ℕ). cell.1 == row) (if b then Some (c, r) else None)) false
      ≡ (r == row)) [
        | true ↦ refl
        | false ↦ sym other.0
      ])
]

-- whether the first position that a row may show is in it
pub in_row_is : (bs : List ℕ) (w h org row : ℕ) → 0 < w → row < h → org ≤ position_at bs org 0 row
    → unwrap_or (option_map (λ (cell : ℕ × ℕ). cell.1 == row) (cell_of w h bs org (position_at bs org 0 row))) false
    ≡ (row_of bs org (position_at bs org 0 row) == row)
in_row_is bs w h org row wide high from =
    in_row_by org (position_at bs org 0 row) (row_of bs org (position_at bs org 0 row))
    (column_of bs org (position_at bs org 0 row)) w h row wide high (start_stands bs org row from)

-- ---- a share of a text

shared : (len row rows q : ℕ) → row < rows → rows * q ≤ len * row → q ≤ len
shared len row rows q low most = elim (cases_lt len q) [
  | inl more ↦ absurd (
      let left : rows * (len + 1) ≤ rows * q = mul-le-mul_left rows (let l : len + 1 ≤ q = omega (arith, more) in l) in
      let right : len * row ≤ len * rows = mul-le-mul_left len (let l : row ≤ rows = omega (arith, low) in l) in
      let no : ⊥ = omega (arith, left, right, most, low) in no)
  | inr less ↦ omega (arith, less)
]

pub share_within : (len row rows : ℕ) → row < rows → len * row / rows ≤ len
share_within len row rows low =
    shared len row rows (len * row / rows) low (let some : 0 < rows = omega (arith, low) in omega (arith, some))

-- ---- what is read in a frame

-- the stretch between two positions of a text of so many characters, with the characters at both
abbrev pub drawn_of : ℕ → ℕ → ℕ → ℕ → Selection
drawn_of v p q len = record { viewer = v; beg = min p q; end = min (max p q + 1) len }

-- an org and a text are those of a viewer
module _ (old : List ℕ) (d : KeptDesktop) (v org : ℕ) (text : List Piece)
    (org_is : org ≡ (viewer_or_none d.viewers v).org)
    (text_is : text ≡ text_in d.texts (viewer_or_none d.viewers v).main) where
  pub org_low : IsOver old d → org ≤ length (flat text)
  org_low over =
      let low = org_kept (length old) d (over_built old d over) v in
      omega (arith, low, org_is, ap (λ (t : List Piece). length (flat t)) text_is)

  bytes_as : bytes_of_text old (flat text) ≡ bytes_of (main_of (seen old d) v)
  bytes_as = ap (λ (t : List Piece). bytes_of_text old (flat t)) text_is ∙ sym (bytes_read old d v)

  pub position_read : (column row : ℕ)
      → position_at (bytes_of_text old (flat text)) org column row ≡ position_in (seen old d) v column row
  unfolding position_in seen
  position_read column row = λ k. position_at (bytes_as k) (org_is k) column row

  pub start_read : (w h row begin : ℕ) (cell : Option (ℕ × ℕ)) (there : Bool) → 0 < w → row < h → org ≤ begin
      → begin ≡ position_in (seen old d) v 0 row → cell ≡ cell_of w h (bytes_of_text old (flat text)) org begin
      → there ≡ unwrap_or (option_map (λ (c : ℕ × ℕ). c.1 == row) cell) false
      → (if there then Some begin else None) ≡ start_of_row (seen old d) v row
  unfolding position_in start_of_row seen
  start_read w h row begin cell there wide high from begin_is cell_is there_is =
      let x = seen old d in
      let o = (viewer_or_none d.viewers v).org in
      let bs = bytes_of (main_of x v) in
      let low : o ≤ position_at bs o 0 row = omega (arith, from, begin_is, org_is) in
      let there_seen : there ≡ (row_of bs o (position_at bs o 0 row) == row) =
      there_is
      ∙ ap (λ (c : Option (ℕ × ℕ)). unwrap_or (option_map (λ (c : ℕ × ℕ). c.1 == row) c) false) cell_is
      ∙ (λ k. unwrap_or (option_map (λ (c : ℕ × ℕ). c.1 == row)
      (cell_of w h (bytes_as k) (org_is k) (begin_is k))) false)
      ∙ in_row_is bs w h o row wide high low in
      λ k. if there_seen k then Some (begin_is k) else None

pub share_read : (old : List ℕ) (d : KeptDesktop) (v : ℕ) (text : List Piece)
    → text ≡ text_in d.texts (viewer_or_none d.viewers v).main
    → (len row rows pos : ℕ) → len ≡ length (flat text) → rows ≡ rows_of d v → pos ≡ len * row / rows
    → line_start (bytes_of_text old (flat text)) pos ≡ start_of_share (seen old d) v row
unfolding start_of_share seen
share_read old d v text text_is len row rows pos len_is rows_is pos_is =
    let bytes_as = ap (λ (t : List Piece). bytes_of_text old (flat t)) text_is ∙ sym (bytes_read old d v) in
    let long : len ≡ length (main_of (seen old d) v) =
    len_is ∙ ap (λ (t : List Piece). length (flat t)) text_is ∙ sym (main_long old d v) in
    λ k. line_start (bytes_as k) ((pos_is ∙ (λ j. long j * row / rows_is j)) k)

pub nearest : (old : List ℕ) (d : KeptDesktop) (v x y column row : ℕ) → column ≡ text_column d v x
    → row ≡ text_row d v y → position_in (seen old d) v column row ≡ text_position (seen old d) v x y
unfolding position_in text_position seen
nearest old d v x y column row column_is row_is = λ k.
    position_at (bytes_of (main_of (seen old d) v)) (viewer_or_none d.viewers v).org (column_is k) (row_is k)

pub offsets_kept : (old now : List ℕ) (d : KeptDesktop) (v : ℕ) (text : List Piece)
    → text ≡ text_in d.texts (viewer_or_none d.viewers v).main → length now ≡ length old → IsOver old d
    → AreWithin (length now) (flat text)
offsets_kept old now d v text text_is long over =
    subst (λ n. AreWithin n (flat text)) (sym long)
    (subst (λ (t : List Piece). AreWithin (length old) (flat t)) (sym text_is)
    (text_within (length old) d.texts (viewer_or_none d.viewers v).main (within_counted old d over).texts))

-- the stretch that was drawn, where both positions were read
pub drawn_read : (old : List ℕ) (d : KeptDesktop) (v x0 y0 x1 y1 p q len : ℕ)
    → p ≡ text_position (seen old d) v x0 y0 → q ≡ text_position (seen old d) v x1 y1
    → len ≡ length (flat (text_in d.texts (viewer_or_none d.viewers v).main))
    → drawn_of v p q len ≡ stretch_drawn (seen old d) v x0 y0 x1 y1
drawn_read old d v x0 y0 x1 y1 p q len p_is q_is len_is = λ k.
    drawn_of v (p_is k) (q_is k) ((len_is ∙ sym (main_long old d v)) k)
