-- What changes a row has it shown.
use Rattle.std.proofs.Common.{◌≡◌, ◌<◌, ◌+◌, ◌≤◌, ℕ, List, [], ◌∷◌, ◌++◌, refl, ap, sym, ◌∙◌, arith, Bool, true}
use Rattle.std.proofs.Common.{false, nat_eq}
use Rattle.std.proofs.Common.{cond, length, Option, Some, None, min, subst}
use Rattle.std.specs.Prelude.{◌&&◌, ◌==◌, if◌then◌else◌, nat_le, nat_lt}
use Rattle.std.specs.List.{list_all}
use Rattle.std.proofs.lemmas.Bool.{eqb-true}
use Rattle.std.proofs.lemmas.Bool.Decides.{nat_tests}
use Rattle.screen_drawing.specs.declared.pen.Pen.{Pen}
use Rattle.screen_drawing.specs.declared.pen.TheConstants.{WHITE}
use Rattle.screen_drawing.specs.declared.pen.Weight.{Weight}
use Rattle.screen_drawing.specs.declared.pen.Weight.TheVariants.{Regular, Bold, Faint}
use Rattle.screen_drawing.specs.declared.pen.Rule.{Rule}
use Rattle.screen_drawing.specs.declared.pen.Rule.TheVariants.{Plain, Under, Over}
use Rattle.screen_drawing.specs.declared.face.Face.{Face}
use Rattle.screen_drawing.specs.declared.operation.Operation.{Operation}
use Rattle.screen_drawing.specs.declared.operation.Operation.TheVariants.{Go, Take, Put, Clear}
use Rattle.screen_drawing.specs.declared.operation.Operation.TheVariants.{Hold, Release, Hide, Show, Ring, Wipe}
use Rattle.screen_drawing.specs.declared.changes.Brush.{Brush}
use Rattle.screen_drawing.specs.Pen.{blank_face, plain_pen, same_face, same_pen, weight_code, slant_code, rule_code}
use Rattle.screen_drawing.specs.Grid.{Grid, act, done, drawn_face, lost}
use Rattle.screen_drawing.specs.Changes.{brush_at, changes, is_blank_face, operations_to_reach, strokes}
use Rattle.screen_drawing.specs.Shows.{ShowsFrom}

pub by_cases : (P : Bool → Type 0) (b : Bool) → (b ≡ true → P true) → (b ≡ false → P false) → P b
by_cases P true t f = t refl
by_cases P false t f = f refl

pair_false : (a b : Bool) → (b ≡ true → a ≡ false) → a && b ≡ false
pair_false true true h = absurd (cc (h refl))
pair_false true false h = refl
pair_false false b h = refl

pub both : (a b : Bool) → a && b ≡ true → (a ≡ true) × (b ≡ true)
both true b h = (refl, h)
both false b h = absurd cc

-- equal pens and faces

-- what has a code is worked out of it again
abbrev weight_of : ℕ → Weight
weight_of code = if code == 22 then Regular else (if code == 1 then Bold else Faint)

abbrev slant_of : ℕ → Bool
slant_of code = code == 3

abbrev rule_of : ℕ → Rule
rule_of code = if code == 24 then Plain else (if code == 4 then Under else Over)

weight_again : (w : Weight) → weight_of (weight_code w) ≡ w
weight_again Regular = refl
weight_again Bold = refl
weight_again Faint = refl

slant_again : (is_italic : Bool) → slant_of (slant_code is_italic) ≡ is_italic
slant_again true = refl
slant_again false = refl

rule_again : (r : Rule) → rule_of (rule_code r) ≡ r
rule_again Plain = refl
rule_again Under = refl
rule_again Over = refl

-- so those of one code are equal
by_code : {A : Type 0} (code : A → ℕ) (back : ℕ → A) → ((a : A) → back (code a) ≡ a) → (a b : A)
    → nat_eq (code a) (code b) ≡ true → a ≡ b
by_code code back again a b e = sym (again a) ∙ ap back (eqb-true (code a) (code b) e) ∙ again b

pub pens : (a b : Pen) → same_pen a b ≡ true → a ≡ b
pens a b e =
    let (ink, e1) = both (nat_eq a.ink b.ink) _ e in
    let (paper, e2) = both (nat_eq a.paper b.paper) _ e1 in
    let (weight, e3) = both (nat_eq (weight_code a.weight) (weight_code b.weight)) _ e2 in
    let (slant, rule) = both (nat_eq (slant_code a.is_italic) (slant_code b.is_italic)) _ e3 in
    λ i. record {
      ink = eqb-true a.ink b.ink ink i;
      paper = eqb-true a.paper b.paper paper i;
      weight = by_code weight_code weight_of weight_again a.weight b.weight weight i;
      is_italic = by_code slant_code slant_of slant_again a.is_italic b.is_italic slant i;
      rule = by_code rule_code rule_of rule_again a.rule b.rule rule i;
    }

pub faces : (a b : Face) → same_face a b ≡ true → a ≡ b
faces a b e =
    let (byte, pen) = both (nat_eq a.byte b.byte) (same_pen a.pen b.pen) e in
    λ i. record { byte = eqb-true a.byte b.byte byte i; pen = pens a.pen b.pen pen i }

-- lists of operations
pub done_both : (a b : List Operation) (g : Grid) → done (a ++ b) g ≡ done b (done a g)
done_both [] b g = refl
done_both (o ∷ os) b g = done_both os b (act o g)

-- a grid whose cursor and pen stand ready at a cell
abbrev pub ready : ℕ → ℕ → Pen → Grid → Grid
ready row column pen g = record g { column = column; row = row; pen = pen }

-- what is known of cursor and pen holds
abbrev pub IsHeld : Option Brush → ℕ → Grid → Type 0
IsHeld None row g = Unit {0}
IsHeld (Some b) row g = (g.column ≡ b.column) × (g.row ≡ row) × (g.pen ≡ b.pen)

pub least : (a b : ℕ) → a ≤ b → min a b ≡ a
least a b h = grind (arith)

reached : (brush : Option Brush) (row column : ℕ) (pen : Pen) (g : Grid) → column ≤ g.width → row ≤ g.height
    → IsHeld brush row g → done (operations_to_reach brush row column pen) g ≡ ready row column pen g
reached None row column pen g wide high held =
    λ i. record g { column = least column g.width wide i; row = least row g.height high i; pen = pen }
reached (Some b) row column pen g wide high held =
    by_cases (λ t. done (cond t [] (Go column row ∷ []) ++ cond (same_pen b.pen pen) [] (Take pen ∷ [])) g
    ≡ ready row column pen g) (nat_eq b.column column)
    (λ e. by_cases (λ t. done (cond t [] (Take pen ∷ [])) g ≡ ready row column pen g) (same_pen b.pen pen)
    (λ p. λ i. record g {
      column = (held.0 ∙ eqb-true b.column column e) i;
      row = held.1 i;
      pen = (held.2 ∙ pens b.pen pen p) i;
    })
    (λ p. λ i. record g { column = (held.0 ∙ eqb-true b.column column e) i; row = held.1 i; pen = pen }))
    (λ e. by_cases (λ t. done (Go column row ∷ cond t [] (Take pen ∷ [])) g ≡ ready row column pen g)
    (same_pen b.pen pen)
    (λ p. λ i. record g {
      column = least column g.width wide i;
      row = least row g.height high i;
      pen = (held.2 ∙ pens b.pen pen p) i;
    })
    (λ p. λ i. record g { column = least column g.width wide i; row = least row g.height high i; pen = pen }))

-- no operation changes how wide and high a grid is
same_size : (os : List Operation) (g : Grid) → ((done os g).width ≡ g.width) × ((done os g).height ≡ g.height)
same_size [] g = (refl, refl)
same_size (Hold ∷ os) g = same_size os (act Hold g)
same_size (Release ∷ os) g = same_size os (act Release g)
same_size (Hide ∷ os) g = same_size os (act Hide g)
same_size (Show ∷ os) g = same_size os (act Show g)
same_size (Ring ∷ os) g = same_size os (act Ring g)
same_size (Go c r ∷ os) g = same_size os (act (Go c r) g)
same_size (Take p ∷ os) g = same_size os (act (Take p) g)
same_size (Put b ∷ os) g = same_size os (act (Put b) g)
same_size (Clear ∷ os) g = same_size os (act Clear g)
same_size (Wipe ∷ os) g = same_size os (act Wipe g)

pub same_width : (os : List Operation) (g : Grid) → (done os g).width ≡ g.width
same_width os g = (same_size os g).0

pub same_height : (os : List Operation) (g : Grid) → (done os g).height ≡ g.height
same_height os g = (same_size os g).1

-- tests of columns and rows
inside : (w c : ℕ) → c ≤ w → nat_lt w c ≡ false
inside w c h = grind (arith, nat_tests)

less_no : (x c : ℕ) → x < c → nat_eq x c ≡ false
less_no x c h = grind (arith, h)

more_no : (x c : ℕ) → c < x → nat_eq x c ≡ false
more_no x c h = grind (arith, h)

left_of : (x c : ℕ) → x < c → nat_le c x ≡ false
left_of x c h = grind (arith, nat_tests)

from_on : (x c : ℕ) → c ≤ x → nat_le c x ≡ true
from_on x c h = grind (arith, nat_tests)

self : (x : ℕ) → nat_eq x x ≡ true
self x = grind (arith)

outside : (x y c r : ℕ) → (y ≡ r → x < c) → nat_eq x c && nat_eq y r ≡ false
outside x y c r h = pair_false (nat_eq x c) (nat_eq y r) (λ e. less_no x c (h (eqb-true y r e)))

before : (x y c r : ℕ) → (y ≡ r → x < c) → nat_le c x && nat_eq y r ≡ false
before x y c r h = pair_false (nat_le c x) (nat_eq y r) (λ e. left_of x c (h (eqb-true y r e)))

beyond : (x y c r : ℕ) → c < x → nat_eq x c && nat_eq y r ≡ false
beyond x y c r h = pair_false (nat_eq x c) (nat_eq y r) (λ e. more_no x c h)

-- a cell was put, or a row was cleared from a column on
abbrev put_at : ℕ → ℕ → Face → Grid → Grid
put_at row column n g = act (Put n.byte) (ready row column n.pen g)

abbrev cleared_at : ℕ → ℕ → Grid → Grid
cleared_at row column g = act Clear (ready row column (plain_pen WHITE) g)

module _ (row column : ℕ) (g : Grid) (wide : column ≤ g.width) where
  put_elsewhere : (n : Face) (x y : ℕ) → nat_eq x column && nat_eq y row ≡ false
      → (put_at row column n g).cells x y ≡ g.cells x y
  put_elsewhere n x y h =
      ap (λ b. cond b (lost n.pen) (cond (nat_eq x column && nat_eq y row) (drawn_face n.byte n.pen) (g.cells x y)))
      (inside g.width column wide)
      ∙ ap (λ b. cond b (drawn_face n.byte n.pen) (g.cells x y)) h

  put_here : (n : Face) → (put_at row column n g).cells column row ≡ n
  put_here n =
      ap (λ b. cond b (lost n.pen)
      (cond (nat_eq column column && nat_eq row row) (drawn_face n.byte n.pen) (g.cells column row)))
      (inside g.width column wide)
      ∙ (λ i. cond (self column i && self row i) (drawn_face n.byte n.pen) (g.cells column row))

  cleared_elsewhere : (x y : ℕ) → nat_le column x && nat_eq y row ≡ false
      → (cleared_at row column g).cells x y ≡ g.cells x y
  cleared_elsewhere x y h =
      ap (λ b. cond b (lost (plain_pen WHITE)) (cond (nat_le column x && nat_eq y row) (blank_face WHITE) (g.cells x y)))
      (inside g.width column wide)
      ∙ ap (λ b. cond b (blank_face WHITE) (g.cells x y)) h

  cleared_here : (x : ℕ) → column ≤ x → (cleared_at row column g).cells x row ≡ blank_face WHITE
  cleared_here x h =
      ap (λ b. cond b (lost (plain_pen WHITE)) (cond (nat_le column x && nat_eq row row) (blank_face WHITE) (g.cells x row)))
      (inside g.width column wide)
      ∙ (λ i. cond (from_on x column h i && self row i) (blank_face WHITE) (g.cells x row))

  blank_shown : (fs : List Face) (x : ℕ) → column ≤ x → list_all is_blank_face fs ≡ true
      → ShowsFrom row x fs (cleared_at row column g)
  blank_shown [] x h all = tt
  blank_shown (f ∷ fs) x h all =
      let (this, others) = both (is_blank_face f) (list_all is_blank_face fs) all in
      (cleared_here x h ∙ sym (faces f (blank_face WHITE) this), blank_shown fs (x + 1) (omega arith) others)

pub moves : (row column : ℕ) (fs : List Face) (g h : Grid) → ((x : ℕ) → column ≤ x → h.cells x row ≡ g.cells x row)
    → ShowsFrom row column fs g → ShowsFrom row column fs h
moves row column [] g h same s = tt
moves row column (f ∷ fs) g h same s =
    (same column (omega arith) ∙ s.0, moves row (column + 1) fs g h (λ x l. same x (omega (arith, l))) s.1)

-- the operations of a stroke lead to what follows from a grid that stands ready
ready_first : (brush : Option Brush) (row column : ℕ) (pen : Pen) (more : List Operation) (g : Grid)
    → column ≤ g.width → row ≤ g.height → IsHeld brush row g
    → done (operations_to_reach brush row column pen ++ more) g ≡ done more (ready row column pen g)
ready_first brush row column pen more g wide high held =
    done_both (operations_to_reach brush row column pen) more g ∙ ap (done more) (reached brush row column pen g wide high held)

module _ (row : ℕ) where
  pub kept : (brush : Option Brush) (column : ℕ) (olds news : List Face) (g : Grid) (x y : ℕ)
      → column + length news ≤ g.width + 1 → row ≤ g.height → IsHeld brush row g → (y ≡ row → x < column)
      → (done (strokes brush row column olds news) g).cells x y ≡ g.cells x y
  kept brush column [] news g x y wide high held h = refl
  kept brush column (o ∷ os) [] g x y wide high held h = refl
  kept brush column (o ∷ os) (n ∷ ns) g x y wide high held h =
      let later : y ≡ row → x < column + 1 = λ e. omega (arith, h e) in
      let fits : column ≤ g.width = omega arith in
      let less : column + 1 + length ns ≤ g.width + 1 = omega arith in
      let cleared : List Operation = operations_to_reach brush row column (plain_pen WHITE) ++ Clear ∷ [] in
      let rest : List Operation = strokes (brush_at (column + 1) n.pen) row (column + 1) os ns in
      let stroke : List Operation = operations_to_reach brush row column n.pen ++ Put n.byte ∷ rest in
      by_cases (λ b. (done (cond b (strokes brush row (column + 1) os ns)
      (cond (list_all is_blank_face (n ∷ ns)) cleared stroke)) g).cells x y ≡ g.cells x y) (same_face o n)
      (λ e. kept brush (column + 1) os ns g x y less high held later)
      (λ e. by_cases (λ b. (done (cond b cleared stroke) g).cells x y ≡ g.cells x y) (list_all is_blank_face (n ∷ ns))
      (λ all. ap (λ (k : Grid). k.cells x y) (ready_first brush row column (plain_pen WHITE) (Clear ∷ []) g fits high held)
      ∙ cleared_elsewhere row column g fits x y (before x y column row h))
      (λ some. ap (λ (k : Grid). k.cells x y) (ready_first brush row column n.pen (Put n.byte ∷ rest) g fits high held)
      ∙ kept (brush_at (column + 1) n.pen) (column + 1) os ns (put_at row column n g) x y less high (refl, refl, refl)
      later
      ∙ put_elsewhere row column g fits n x y (outside x y column row h)))

  pub shown : (brush : Option Brush) (column : ℕ) (olds news : List Face) (g : Grid) → length olds ≡ length news
      → column + length news ≤ g.width + 1 → row ≤ g.height → IsHeld brush row g → ShowsFrom row column olds g
      → ShowsFrom row column news (done (strokes brush row column olds news) g)
  shown brush column [] [] g long wide high held s = tt
  shown brush column [] (n ∷ ns) g long wide high held s = absurd (omega (arith, long))
  shown brush column (o ∷ os) [] g long wide high held s = absurd (omega (arith, long))
  shown brush column (o ∷ os) (n ∷ ns) g long wide high held s =
      let others : length os ≡ length ns = omega (arith, long) in
      let here : row ≡ row → column < column + 1 = λ e. omega arith in
      let fits : column ≤ g.width = omega arith in
      let less : column + 1 + length ns ≤ g.width + 1 = omega arith in
      let cleared : List Operation = operations_to_reach brush row column (plain_pen WHITE) ++ Clear ∷ [] in
      let rest : List Operation = strokes (brush_at (column + 1) n.pen) row (column + 1) os ns in
      let stroke : List Operation = operations_to_reach brush row column n.pen ++ Put n.byte ∷ rest in
      by_cases (λ b. ShowsFrom row column (n ∷ ns) (done (cond b (strokes brush row (column + 1) os ns)
      (cond (list_all is_blank_face (n ∷ ns)) cleared stroke)) g)) (same_face o n)
      (λ e. (
        kept brush (column + 1) os ns g column row less high held here ∙ s.0 ∙ faces o n e,
        shown brush (column + 1) os ns g others less high held s.1,
      ))
      (λ e. by_cases (λ b. ShowsFrom row column (n ∷ ns) (done (cond b cleared stroke) g)) (list_all is_blank_face (n ∷ ns))
      (λ all. subst (ShowsFrom row column (n ∷ ns))
      (sym (ready_first brush row column (plain_pen WHITE) (Clear ∷ []) g fits high held))
      (blank_shown row column g fits (n ∷ ns) column (omega arith) all))
      (λ some. subst (ShowsFrom row column (n ∷ ns))
      (sym (ready_first brush row column n.pen (Put n.byte ∷ rest) g fits high held)) (
        kept (brush_at (column + 1) n.pen) (column + 1) os ns (put_at row column n g) column row less high
            (refl, refl, refl) here
            ∙ put_here row column g fits n,
        shown (brush_at (column + 1) n.pen) (column + 1) os ns (put_at row column n g) others less high
            (refl, refl, refl)
            (moves row (column + 1) os g (put_at row column n g)
            (λ x l. put_elsewhere row column g fits n x row (beyond x row column row (omega (arith, l)))) s.1),
      )))

  -- the whole row
  pub row_kept : (olds news : List Face) (g : Grid) (x y : ℕ) → length news ≤ g.width → row ≤ g.height
      → (y ≡ row → x < 1) → (done (changes row olds news) g).cells x y ≡ g.cells x y
  unfolding changes
  row_kept olds news g x y wide high h = kept None 1 olds news g x y (omega arith) high tt h

  pub row_shown : (olds news : List Face) (g : Grid) → length olds ≡ length news → length news ≤ g.width
      → row ≤ g.height → ShowsFrom row 1 olds g → ShowsFrom row 1 news (done (changes row olds news) g)
  unfolding changes
  row_shown olds news g long wide high s = shown None 1 olds news g long (omega arith) high tt s

-- a row that is the same
all_true : (a b c d e : Bool) → a ≡ true → b ≡ true → c ≡ true → d ≡ true → e ≡ true
    → a && (b && (c && (d && e))) ≡ true
all_true a b c d e p q r s t = λ i. p i && (q i && (r i && (s i && t i)))

same_itself : (f : Face) → same_face f f ≡ true
same_itself f =
    let pen : same_pen f.pen f.pen ≡ true =
    all_true _ _ _ _ _ (self f.pen.ink) (self f.pen.paper) (self (weight_code f.pen.weight))
    (self (slant_code f.pen.is_italic)) (self (rule_code f.pen.rule)) in
    λ i. self f.byte i && pen i

no_strokes : (brush : Option Brush) (row column : ℕ) (faces : List Face) → strokes brush row column faces faces ≡ []
no_strokes brush row column [] = refl
no_strokes brush row column (f ∷ fs) =
    ap (λ b. cond b (strokes brush row (column + 1) fs fs)
    (cond (list_all is_blank_face (f ∷ fs)) (operations_to_reach brush row column (plain_pen WHITE) ++ Clear ∷ [])
    (operations_to_reach brush row column f.pen ++ Put f.byte ∷ strokes (brush_at (column + 1) f.pen) row (column + 1) fs fs)))
    (same_itself f)
    ∙ no_strokes brush row (column + 1) fs

pub nothing_changed : (row : ℕ) (faces : List Face) → changes row faces faces ≡ []
unfolding changes
nothing_changed row faces = no_strokes None row 1 faces
