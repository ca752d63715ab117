-- Viewers on their way to the screen: their texts are there, can be read, and read as they are seen.
use Rattle.std.proofs.Common.{◌≡◌, ℕ, zero, suc, ◌+◌, ◌<◌, ◌≤◌, List, [], ◌∷◌, length, map, refl, sym, ap, subst, ◌∙◌}
use Rattle.std.proofs.Common.{arith, Option, Some, IsNone, true, cond, not, ◌==◌, drop, inl, inr}
use Rattle.std.specs.Prelude.{All}
use Rattle.std.specs.Option.{option_map}
use Rattle.std.specs.List.{slice_index_or, position_or_len, find}
use Rattle.std.proofs.lemmas.Bool.{cases_lt, eq-eqb}
use Rattle.std.proofs.lemmas.List.{length-map, get_or-map}
use Rattle.std.proofs.lemmas.List.Elements.{All-map}
use Rattle.piece_ring.specs.Flat.{flat}
use Rattle.readers_scanners.specs.Reading.{contents}
use Rattle.screen_cells.specs.declared.shown.Shown.{Shown}
use Rattle.screen_pictures.specs.Picture.{picture, Painted}
use Rattle.screen_pictures.specs.Screen.{screen_of}
use Rattle.screen_cells.specs.Shown.{IsShowable, as_read}
use Rattle.desktop_definitions.specs.declared.viewer.Viewer.{Viewer}
use Rattle.desktop_definitions.specs.declared.viewer.Selection.{Selection}
use Rattle.desktop_definitions.proofs.TableLaws.{length_seen_text}
use Rattle.desktop_definitions.specs.Desktop.{KeptDesktop}
use Rattle.desktop_definitions.specs.Viewers.{text_in, text_of}
use Rattle.screen_cells.specs.Lines.{AreLinesOf, IsNumbered}
use Rattle.screen_cells.specs.declared.lines.KeptLines.{KeptLines}
use Rattle.piece_ring.specs.Text.{Text, AreWithin}
use Rattle.desktop_definitions.specs.Seen.{seen, seen_table}
use Rattle.desktop_definitions.specs.Shown.{ranked, selection_in, painted, shown_screen}
use Rattle.desktop_definitions.specs.Sound.{AllWithin, IsViewer, IsKeptWhole}
use Rattle.desktop_definitions.proofs.TextLaws.{text_there, text_in_seen, text_within}
use Rattle.desktop_definitions.proofs.ViewLaws.{viewer_at_place}
use Rattle.desk_views.specs.Views.{view_in, KeptView, kept_view, AreThere}

-- a place with a character is before the end
pub not_at_end : {X : Type 0} (item : Option X) (x : X) (p n : ℕ) → item ≡ Some x → (p ≡ n → IsNone item) → p ≤ n
    → p < n
not_at_end item x p n is ends within = elim (cases_lt p n) [
  | inl before ↦ before
  | inr past ↦ let last : p ≡ n = omega (arith, past, within) in absurd (cc (subst IsNone is (ends last)))
]

-- ---- what is selected

from_place : {X : Type 0} (xs : List X) (i : ℕ) (d : X) → i < length xs
    → drop i xs ≡ slice_index_or xs i d ∷ drop (suc i) xs
from_place [] i d low = absurd (omega (arith, low))
from_place (x ∷ xs) zero d low = refl
from_place (x ∷ xs) (suc i) d low = from_place xs i d (omega (arith, low))

-- the first selection that is of a viewer
pub selected_here : (selections : List Selection) (v at : ℕ) (d : Selection) → at < length selections
    → position_or_len (λ s. s.viewer == v) selections
    ≡ at + position_or_len (λ s. s.viewer == v) (drop at selections)
    → find (λ s. s.viewer == v) selections ≡ find (λ s. s.viewer == v) (drop at selections)
    → (slice_index_or selections at d).viewer ≡ v
    → Some (record {
      beg = (slice_index_or selections at d).beg;
      end = (slice_index_or selections at d).end;
      rank = at + 1;
    }) ≡ selection_in selections v
selected_here selections v at d low place found same =
    let s = slice_index_or selections at d in
    let rest = drop (suc at) selections in
    let test = λ (s : Selection). s.viewer == v in
    let here : drop at selections ≡ s ∷ rest = from_place selections at d low in
    let passes : (s.viewer == v) ≡ true = eq-eqb s.viewer v same in
    let first : position_or_len test (drop at selections) ≡ 0 = ap (position_or_len test) here
    ∙ ap (λ b. let n : ℕ = cond (not b) (1 + position_or_len test rest) 0 in n) passes in
    let first_of : position_or_len test selections ≡ at = omega (arith, place, first) in
    let is : find test selections ≡ Some s = found ∙ ap (find test) here
    ∙ ap (λ b. let o : Option Selection = cond b (Some s) (find test rest) in o) passes in
    let ranks : position_or_len (λ (t : Selection). t.viewer == s.viewer) selections ≡ at =
    ap (λ (w : ℕ). position_or_len (λ (t : Selection). t.viewer == w) selections) same ∙ first_of in
    (λ k. Some (record { beg = s.beg; end = s.end; rank = sym ranks k + 1 }))
    ∙ ap (option_map (ranked selections)) (sym is)

-- ---- what is shown

-- a view that can be painted where there are n characters
pub record IsReadable (n : ℕ) (v : KeptView) : Type 0 where
  pub org : v.frame.org ≤ length (flat v.main)
  pub menu : AreWithin n (flat v.menu)
  pub main : AreWithin n (flat v.main)

module _ (d : KeptDesktop) (whole : IsKeptWhole d) where
  stands : (i : ℕ) (e : ℕ × Viewer) → i < length d.viewers
      → IsViewer (seen_table [] d.texts) d.viewers (slice_index_or d.viewers i e).0 (slice_index_or d.viewers i e).1
  unfolding seen
  stands i e low =
      let viewers = (whole.sound []).shaped.viewers in
      viewers.each _ _ (viewer_at_place d.viewers i e viewers.ids low)

  pub all_there : All (AreThere d) d.viewers
  all_there = λ i e low. (
    text_there [] d.texts (slice_index_or d.viewers i e).1.menu (stands i e low).menu,
    text_there [] d.texts (slice_index_or d.viewers i e).1.main (stands i e low).main,
  )

  all_readable : (n : ℕ) → AllWithin n d.texts → All (λ e. IsReadable n (view_in d e)) d.viewers
  all_readable n within = λ i e low.
      let main = (slice_index_or d.viewers i e).1.main in
      let same = ap length (text_in_seen [] d.texts main) in
      let long = length_seen_text [] (text_in d.texts main) in
      let org = (stands i e low).org in
      record {
        org = omega (arith, same, long, org);
        menu = text_within n d.texts (slice_index_or d.viewers i e).1.menu within;
        main = text_within n d.texts main within;
      }

  -- the screen can read what it is handed
  pub all_showable : (n : ℕ) (shown : List Shown) → AllWithin n d.texts
      → map kept_view shown ≡ map (view_in d) d.viewers → All (IsShowable n) shown
  all_showable n shown within is = λ i s low.
      let all : All (IsReadable n) (map kept_view shown) = subst (All (IsReadable n)) (sym is)
      (All-map (IsReadable n) (view_in d) d.viewers (all_readable n within)) in
      let here : IsReadable n (kept_view (slice_index_or shown i s)) =
      subst (IsReadable n) (get_or-map kept_view shown i s (kept_view s) low)
      (all i (kept_view s) (omega (arith, low, length-map {B = KeptView} shown kept_view))) in
      record { org = here.org; menu = here.menu; main = here.main }

-- ---- by number

-- a viewer's texts are those of the numbers that it names
record IsNamed (characters : List ℕ) (d : KeptDesktop) (v : KeptView) : Type 0 where
  pub menu : text_of (seen characters d) v.menu_text ≡ contents characters (flat v.menu)
  pub main : text_of (seen characters d) v.frame.text ≡ contents characters (flat v.main)

all_named : (characters : List ℕ) (d : KeptDesktop) → All (λ e. IsNamed characters d (view_in d e)) d.viewers
unfolding seen
all_named characters d = λ i e low. record {
  menu = text_in_seen characters d.texts (slice_index_or d.viewers i e).1.menu;
  main = text_in_seen characters d.texts (slice_index_or d.viewers i e).1.main;
}

-- and so are those of what the screen is handed
pub all_numbered : (characters : List ℕ) (d : KeptDesktop) (shown list : List Shown) → list ≡ shown
    → map kept_view shown ≡ map (view_in d) d.viewers
    → All (IsNumbered (text_of (seen characters d)) characters) list
all_numbered characters d shown list same is =
    subst (All (IsNumbered (text_of (seen characters d)) characters)) (sym same) (λ i s low.
    let all : All (IsNamed characters d) (map kept_view shown) = subst (All (IsNamed characters d)) (sym is)
    (All-map (IsNamed characters d) (view_in d) d.viewers (all_named characters d)) in
    let here : IsNamed characters d (kept_view (slice_index_or shown i s)) =
    subst (IsNamed characters d) (get_or-map kept_view shown i s (kept_view s) low)
    (all i (kept_view s) (omega (arith, low, length-map {B = KeptView} shown kept_view))) in
    record { menu = here.menu; main = here.main })

-- lines that painting keeps for what is handed on are lines of the desktop's texts
pub lines_on : (characters : List ℕ) (d : KeptDesktop) {shown list : List Shown} {old ready new : KeptLines}
    → list ≡ shown → map kept_view shown ≡ map (view_in d) d.viewers
    → ((texts : ℕ → Text ℕ) → AreLinesOf texts old → AreLinesOf texts ready)
    → ((texts : ℕ → Text ℕ) → All (IsNumbered texts characters) list → AreLinesOf texts ready → AreLinesOf texts new)
    → AreLinesOf (text_of (seen characters d)) old → AreLinesOf (text_of (seen characters d)) new
lines_on characters d same is prepare paint told =
    let texts = text_of (seen characters d) in
    paint texts (all_numbered characters d _ _ same is) (prepare texts told)

-- ---- as they read

-- a viewer as it reads, over these characters
abbrev read_view : List ℕ → KeptView → Painted
read_view characters v = record {
  id = v.id;
  menu = contents characters (flat v.menu);
  main = contents characters (flat v.main);
  frame = v.frame;
}

shown_read : (characters : List ℕ) (shown : List Shown)
    → map (as_read characters) shown ≡ map (read_view characters) (map kept_view shown)
shown_read characters [] = refl
shown_read characters (s ∷ ss) = ap (λ (vs : List Painted). as_read characters s ∷ vs) (shown_read characters ss)

views_read : (characters : List ℕ) (d : KeptDesktop) (viewers : List (ℕ × Viewer))
    → map (read_view characters) (map (view_in d) viewers)
    ≡ map (painted (seen characters d)) viewers
unfolding seen
views_read characters d [] = refl
views_read characters d (e ∷ es) = λ k. (record {
  id = e.0;
  menu = sym (text_in_seen characters d.texts e.1.menu) k;
  main = sym (text_in_seen characters d.texts e.1.main) k;
  frame = (view_in d e).frame;
}) ∷ views_read characters d es k

pub painted_seen : (characters : List ℕ) (d : KeptDesktop) (shown : List Shown)
    → map kept_view shown ≡ map (view_in d) d.viewers
    → screen_of (picture d.columns (map (as_read characters) shown) d.marker) ≡ shown_screen (seen characters d)
unfolding shown_screen seen
painted_seen characters d shown is =
    let all : map (as_read characters) shown ≡ map (painted (seen characters d)) d.viewers =
    shown_read characters shown ∙ ap (map (read_view characters)) is ∙ views_read characters d d.viewers in
    ap (λ (viewers : List Painted). screen_of (picture d.columns viewers d.marker)) all
