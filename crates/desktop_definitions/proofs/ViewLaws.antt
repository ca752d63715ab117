-- Laws of what is shown and listed: each text that a viewer names is there, and reads as it is seen.
use Rattle.std.specs.Prelude.{◌≡◌, ℕ, zero, suc, ◌+◌, ◌*◌, ◌<◌, ◌≤◌, ◌==◌, IsSome, is_some, All, Bool, true, false}
use Rattle.std.specs.Prelude.{cond, if◌then◌else◌, List, [], ◌∷◌, ◌++◌, length, map, take, drop, sum_by, count_by}
use Rattle.std.specs.Prelude.{slice_get, Option, Some, not}
use Rattle.std.specs.List.{slice_index_or}
use Rattle.std.specs.List.Sorted.{IsStrictlySortedBy}
use Rattle.std.specs.Map.{keys_of}
use Rattle.std.specs.Ordering.{nat_cmp}
use Rattle.std.proofs.Common.{refl, sym, ap, ◌∙◌, append_assoc, append-nil, arith}
use Rattle.std.proofs.lemmas.Bool.{eq-eqb, eqb-true}
use Rattle.std.proofs.lemmas.Bool.Decides.{nat_tests}
use Rattle.std.proofs.lemmas.Cmp.{nat_cmp_total, eq_by_cmp_equiv}
use Rattle.std.proofs.lemmas.List.{drop_all}
use Rattle.std.proofs.lemmas.List.Sums.{sum_by-cons, sum_by-le, take_while-cons}
use Rattle.std.proofs.lemmas.Map.Entries.{lookup_from_place}
use Rattle.std.proofs.lemmas.Map.Keys.{IsDistinct-from_sorted}
use Rattle.piece_ring.specs.declared.piece.Look.{Look}
use Rattle.piece_ring.specs.Flat.{flat}
use Rattle.piece_ring.specs.Text.{Text}
use Rattle.screen_pictures.specs.Bytes.{space}
use Rattle.viewer_tracks.specs.declared.display.Track.{Track}
use Rattle.viewer_tracks.specs.declared.display.Track.TheVariants.{User, System}
use Rattle.viewer_tracks.specs.declared.display.TheConstants.{ROWS}
use Rattle.viewer_tracks.specs.Display.{left_of}
use Rattle.viewer_tracks.specs.Viewers.{Entry as Standing, IsTrack, entry_viewer as standing_at, times_in}
use Rattle.viewer_tracks.specs.Columns.{Columns, IsColumns, IsPlaced, shown_track, stack_of, placed_bottom}
use Rattle.viewer_tracks.specs.Columns.{placed_top}
use Rattle.viewer_tracks.proofs.StackLemmas.{topmost_track}
use Rattle.viewer_tracks.proofs.ColumnLemmas.{stack_in}
use Rattle.desktop_definitions.specs.declared.viewer.Viewer.{Viewer}
use Rattle.desktop_definitions.specs.declared.viewer.Caret.{Caret}
use Rattle.desktop_definitions.specs.declared.viewer.Selection.{Selection}
use Rattle.desktop_definitions.specs.declared.viewer.ClosedViewer.{ClosedViewer}
use Rattle.desktop_definitions.specs.declared.entry.Entry.{Entry}
use Rattle.desktop_definitions.specs.declared.entry.Entry.TheVariants.{Viewer as ViewerEntry}
use Rattle.desktop_definitions.proofs.TableLaws.{length_seen_text}
use Rattle.desktop_definitions.specs.Desktop.{KeptDesktop}
use Rattle.desktop_definitions.specs.Seen.{seen, seen_text, seen_table}
use Rattle.desktop_definitions.specs.Viewers.{viewer_in, viewer_or_none, text_in}
use Rattle.desktop_definitions.specs.Change.{bytes_of}
use Rattle.desktop_definitions.specs.Listing.{listed_name, viewer_entry}
use Rattle.desktop_definitions.specs.Sound.{ArePlaces, AreMarks}
use Rattle.desktop_definitions.proofs.TextLaws.{text_in_seen}

-- ---- viewers

one_there : (b : Bool) (n : ℕ) → n ≡ (if b then 1 else 0) → 0 < n → b ≡ true
one_there true n is some = refl
one_there false n is some = absurd (omega arith)

-- a viewer that stands in a track is there
pub placed_there : (viewers : List (ℕ × Viewer)) (columns : Columns) (closed : Option ClosedViewer) (v : ℕ)
    → ArePlaces viewers columns closed → IsPlaced v columns → IsSome (viewer_in viewers v)
placed_there viewers columns closed v places placed =
    one_there (is_some (viewer_in viewers v)) _ (places.once v) (omega (arith, placed))

place_got : {X : Type 0} (xs : List X) (i : ℕ) (d : X) → i < length xs → slice_get xs i ≡ Some (slice_index_or xs i d)
place_got [] i d low = absurd (omega (arith, low))
place_got (x ∷ xs) zero d low = refl
place_got (x ∷ xs) (suc i) d low = place_got xs i d (omega (arith, low))

-- a viewer of a table is found by its id
pub viewer_at_place : (viewers : List (ℕ × Viewer)) (i : ℕ) (d : ℕ × Viewer)
    → IsStrictlySortedBy nat_cmp (keys_of viewers) → i < length viewers
    → viewer_in viewers (slice_index_or viewers i d).0 ≡ Some (slice_index_or viewers i d).1
viewer_at_place viewers i d rising low =
    lookup_from_place (eq_by_cmp_equiv nat_cmp_total) viewers i (slice_index_or viewers i d).0
    (slice_index_or viewers i d).1 (IsDistinct-from_sorted nat_cmp (keys_of viewers) rising) (place_got viewers i d low)

-- ---- how many viewers stand in a track, and how many are selected in

few_in : (t : List Standing) → All (λ e. 0 < e.height) t → length t ≤ sum_by (λ e. e.height) t
few_in [] all = omega arith
few_in (e ∷ t) all = omega (
  arith,
  all 0 e (omega arith),
  sum_by-cons (λ (e : Standing). e.height) e t,
  few_in t (λ i d low. all (suc i) d (omega (arith, low))),
)

few_in_track : (t : List Standing) → IsTrack t → length t ≤ ROWS
few_in_track t track = omega (arith, few_in t track.some, track.fits)

few_stand : (c : Columns) (k : Track) → IsColumns c → length (shown_track c k) ≤ ROWS
few_stand c k columns = few_in_track (shown_track c k) (topmost_track (stack_of c k) (stack_in c k columns))

-- how often a list of selections is of the viewers of a track
abbrev times_selected : List Selection → List Standing → ℕ
times_selected ss t = sum_by (λ e. count_by (λ s. s.viewer == e.viewer) ss) t

same_test : (a b : ℕ) (t : Bool) → (b == a) ≡ t → (a == b) ≡ (b == a)
same_test a b true is = eq-eqb a b (sym (eqb-true b a is)) ∙ sym is
same_test a b false is = grind (arith, nat_tests)

selected_more : (s : Selection) (ss : List Selection) (t : List Standing)
    → times_selected (s ∷ ss) t ≡ times_in s.viewer t + times_selected ss t
selected_more s ss [] = refl
selected_more s ss (e ∷ t) = omega (
  arith,
  sum_by-cons (λ (e : Standing). count_by (λ (s : Selection). s.viewer == e.viewer) (s ∷ ss)) e t,
  sum_by-cons (λ (e : Standing). count_by (λ (s : Selection). s.viewer == e.viewer) ss) e t,
  sum_by-cons (λ (o : Selection). cond (o.viewer == e.viewer) 1 0) s ss,
  sum_by-cons (λ (o : Standing). cond (o.viewer == s.viewer) 1 0) e t,
  ap (λ b. let n : ℕ = cond b 1 0 in n) (same_test s.viewer e.viewer (e.viewer == s.viewer) refl),
  selected_more s ss t,
)

few_of : (ss : List Selection) (u s : List Standing)
    → All (λ (o : Selection). 0 < times_in o.viewer u + times_in o.viewer s) ss
    → length ss ≤ times_selected ss u + times_selected ss s
few_of [] u s all = omega arith
few_of (o ∷ ss) u s all = omega (
  arith,
  all 0 o (omega arith),
  selected_more o ss u,
  selected_more o ss s,
  few_of ss u s (λ i d low. all (suc i) d (omega (arith, low))),
)

one_each_in : (ss : List Selection) (t : List Standing)
    → ((v : ℕ) → count_by (λ (s : Selection). s.viewer == v) ss ≤ 1) → times_selected ss t ≤ length t * 1
one_each_in ss t one =
    sum_by-le (λ (e : Standing). count_by (λ (s : Selection). s.viewer == e.viewer) ss) 1 t
    (λ i d low. one (slice_index_or t i d).viewer)

-- no more than the viewers that both tracks that are shown have room for
pub few_selections : (columns : Columns) (long : ℕ → ℕ) (caret : Option Caret) (selections : List Selection)
    → IsColumns columns → AreMarks columns long caret selections → length selections ≤ ROWS + ROWS
few_selections columns long caret selections holds marks =
    let u = shown_track columns User in
    let s = shown_track columns System in
    let each : All (λ (o : Selection). 0 < times_in o.viewer u + times_in o.viewer s) selections =
    λ i d low. (marks.all_stand i d low).placed in
    omega (
      arith,
      few_of selections u s each,
      one_each_in selections u marks.one_each,
      one_each_in selections s marks.one_each,
      few_stand columns User holds,
      few_stand columns System holds,
    )

-- ---- the name in a menu, read from the beginning on

from_place : {X : Type 0} (l : List X) (n : ℕ) (x : X) → slice_get l n ≡ Some x → drop n l ≡ x ∷ drop (suc n) l
from_place [] n x is = absurd cc
from_place (y ∷ l) zero x is = let same : y ≡ x = cc is in ap (λ z. z ∷ l) same
from_place (y ∷ l) (suc n) x is = from_place l n x is

name_from : (c : ℕ × Look) (menu : Text ℕ)
    → listed_name (c ∷ menu) ≡ (if not (c.0 == space) then c.0 ∷ listed_name menu else [])
name_from c menu = take_while-cons (λ b. not (b == space)) c.0 (bytes_of menu)

module _ (menu : Text ℕ) (before : List ℕ) (from : ℕ)
    (so_far : before ++ listed_name (drop from menu) ≡ listed_name menu) where
  pub name_more : (after : List ℕ) (to : ℕ) (c : ℕ × Look) → slice_get menu from ≡ Some c → (c.0 == space) ≡ false
      → to ≡ from + 1 → after ≡ before ++ c.0 ∷ [] → after ++ listed_name (drop to menu) ≡ listed_name menu
  name_more after to c is other next grown =
      let step : suc from ≡ to = omega (arith, next) in
      let here : listed_name (drop from menu) ≡ c.0 ∷ listed_name (drop to menu) =
      ap listed_name (from_place menu from c is) ∙ name_from c (drop (suc from) menu)
      ∙ ap (λ b. if not b then c.0 ∷ listed_name (drop (suc from) menu) else []) other
      ∙ ap (λ n. c.0 ∷ listed_name (drop n menu)) step in
      rw (grown, append_assoc) (ap (λ (rest : List ℕ). before ++ rest) (sym here) ∙ so_far)

  pub name_at_space : (c : ℕ × Look) → slice_get menu from ≡ Some c → (c.0 == space) ≡ true → before ≡ listed_name menu
  name_at_space c is last =
      let here : listed_name (drop from menu) ≡ [] =
      ap listed_name (from_place menu from c is) ∙ name_from c (drop (suc from) menu)
      ∙ ap (λ b. if not b then c.0 ∷ listed_name (drop (suc from) menu) else []) last in
      sym (append-nil before) ∙ ap (λ (rest : List ℕ). before ++ rest) (sym here) ∙ so_far

  pub name_at_end : from ≡ length menu → before ≡ listed_name menu
  name_at_end last =
      let here : listed_name (drop from menu) ≡ [] = ap listed_name (drop_all from menu (omega (arith, last))) in
      sym (append-nil before) ∙ ap (λ (rest : List ℕ). before ++ rest) (sym here) ∙ so_far

-- ---- the list of a track's viewers

pub viewer_entry_seen : (characters : List ℕ) (d : KeptDesktop) (track : Track) (v : ℕ) (name : List ℕ) (len : ℕ)
    → name ≡ listed_name (seen_text characters (text_in d.texts (viewer_or_none d.viewers v).menu))
    → len ≡ length (flat (text_in d.texts (viewer_or_none d.viewers v).main))
    → ViewerEntry (left_of track) (placed_bottom d.columns v) (placed_top d.columns v) name len
    ≡ viewer_entry (seen characters d) track v
unfolding seen
viewer_entry_seen characters d track v name len named long =
    let menu = (viewer_or_none d.viewers v).menu in
    let main = (viewer_or_none d.viewers v).main in
    let same_name : name ≡ listed_name (text_in (seen_table characters d.texts) menu) =
    named ∙ ap listed_name (sym (text_in_seen characters d.texts menu)) in
    let same_len : len ≡ length (text_in (seen_table characters d.texts) main) =
    long ∙ sym (length_seen_text characters (text_in d.texts main))
    ∙ ap length (sym (text_in_seen characters d.texts main)) in
    λ k. ViewerEntry (left_of track) (placed_bottom d.columns v) (placed_top d.columns v) (same_name k) (same_len k)

-- entries for the lowest n viewers of a track
abbrev pub entries_to : (ℕ → Entry) → ℕ → List Standing → List Entry
entries_to entry n t = map (λ e. entry e.viewer) (take n t)

module _ (entry : ℕ → Entry) where
  listed_suc : (t : List Standing) (i v : ℕ) → Some v ≡ standing_at t i
      → entries_to entry (suc i) t ≡ entries_to entry i t ++ entry v ∷ []
  listed_suc [] i v is = absurd cc
  listed_suc (e ∷ t) zero v is = let same : e.viewer ≡ v = cc is in ap (λ w. entry w ∷ []) same
  listed_suc (e ∷ t) (suc i) v is = ap (λ (es : List Entry). entry e.viewer ∷ es) (listed_suc t i v is)

  pub listed_more : (t : List Standing) (i v : ℕ) (start before after : List Entry) (new : Entry)
      → Some v ≡ standing_at t i → before ≡ start ++ entries_to entry i t → new ≡ entry v → after ≡ before ++ new ∷ []
      → after ≡ start ++ entries_to entry (i + 1) t
  listed_more t i v start before after new is so_far same grown =
      let next : suc i ≡ i + 1 = omega arith in
      grown ∙ (λ k. so_far k ++ same k ∷ []) ∙ append_assoc start (entries_to entry i t) (entry v ∷ [])
      ∙ ap (λ (es : List Entry). start ++ es) (sym (listed_suc t i v is))
      ∙ ap (λ n. start ++ entries_to entry n t) next

  all_taken : (t : List Standing) (n : ℕ) → length t ≤ n
      → entries_to entry n t ≡ map (λ (e : Standing). entry e.viewer) t
  all_taken [] zero low = refl
  all_taken [] (suc n) low = refl
  all_taken (e ∷ t) zero low = absurd (omega (arith, low))
  all_taken (e ∷ t) (suc n) low = ap (λ (es : List Entry). entry e.viewer ∷ es) (all_taken t n (omega (arith, low)))

  -- the list is whole where there is no further viewer
  pub listed_all : (t : List Standing) (i : ℕ) (start all : List Entry) → length t ≤ i
      → all ≡ start ++ entries_to entry i t → all ≡ start ++ map (λ (e : Standing). entry e.viewer) t
  listed_all t i start all low is = is ∙ ap (λ (es : List Entry). start ++ es) (all_taken t i low)
