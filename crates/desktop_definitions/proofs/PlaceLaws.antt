-- Laws of places: a desktop stays shaped where viewers are placed anew, where a viewer goes, and where texts go that
-- nobody shows.
use Rattle.std.specs.Prelude.{◌≡◌, ℕ, ◌+◌, ◌≤◌, ◌==◌, ◌||◌, not, Bool, true, false, cond, IsTrue, IsSome}
use Rattle.std.specs.Prelude.{is_some, All}
use Rattle.std.specs.Prelude.{◌<◌, if◌then◌else◌, List, [], ◌∷◌, slice_index_or, length, filter, Option}
use Rattle.std.specs.Prelude.{Some, None}
use Rattle.std.specs.Option.{ForSome, unwrap_or}
use Rattle.std.specs.List.{AllByRecursion, list_any}
use Rattle.std.specs.List.Sorted.{IsStrictlySortedBy}
use Rattle.std.specs.Map.{lookup, keys_of, values_of, remove_entry}
use Rattle.std.specs.Ordering.{nat_cmp}
use Rattle.std.specs.declared.cmp.Ordering.TheVariants.{Less}
use Rattle.std.specs.BTreeMap.{is_at}
use Rattle.std.proofs.Common.{refl, sym, ap, subst, ◌∙◌, arith}
use Rattle.std.proofs.lemmas.Bool.{eqb-true, eqb-false, eq-eqb, ne_eqb}
use Rattle.std.proofs.lemmas.Bool.Decides.{nat_tests}
use Rattle.std.proofs.lemmas.List.Elements.{All-filter, All-tail, filter_passes}
use Rattle.std.proofs.lemmas.List.Filters.{sum_by-filter_both}
use Rattle.std.proofs.lemmas.List.Kept.{IsStrictlySortedBy-filter}
use Rattle.std.proofs.lemmas.List.Sums.{sum_by-cons}
use Rattle.std.proofs.lemmas.Map.Entries.{lookup-filter-keys}
use Rattle.std.proofs.lemmas.Map.Lookups.{exact_unsigned}
use Rattle.std.proofs.lemmas.Map.Views.{tells_apart}
use Rattle.viewer_tracks.specs.declared.display.TheConstants.{ROWS, COLUMNS}
use Rattle.viewer_tracks.specs.Columns.{Columns, IsColumns, IsPlaced, IsOnTop, times_placed, times_shown, times_meant}
use Rattle.viewer_tracks.proofs.PlacedLemmas.{shown_placed}
use Rattle.desktop_definitions.specs.declared.viewer.Viewer.{Viewer}
use Rattle.desktop_definitions.specs.declared.viewer.Caret.{Caret}
use Rattle.desktop_definitions.specs.declared.viewer.Selection.{Selection}
use Rattle.desktop_definitions.specs.Limits.{most_pattern}
use Rattle.desktop_definitions.specs.Tables.{Texts, text_numbered, lengths}
use Rattle.piece_ring.specs.Text.{Text}
use Rattle.desktop_definitions.specs.Desktop.{Desktop, DesktopOf, characters_held}
use Rattle.desktop_definitions.specs.Viewers.{viewer_in, text_in, main_length, caret_outside, selections_outside}
use Rattle.desktop_definitions.specs.Viewers.{without_viewer, bare_viewer}
use Rattle.desktop_definitions.specs.Opening.{is_shown, without_unshown}
use Rattle.desktop_definitions.specs.Sound.{AreViewers, times_there, IsClosedPlace, IsCaretPlaced, IsSelection}
use Rattle.desktop_definitions.specs.Sound.{AreMarks, AreFiles, HasLooks, IsShaped}
use Rattle.desktop_definitions.proofs.StepLaws.{AllShown}
use Rattle.desktop_definitions.proofs.LookedLaws.{looks_stay, dropped_looks}

-- ---- numbers in a table

pub at_same : (v k : ℕ) → is_at (nat_cmp v) k ≡ true → v ≡ k
at_same v k is = tells_apart exact_unsigned v k is

pub at_itself : (v : ℕ) → is_at (nat_cmp v) v ≡ true
at_itself v = grind (arith, nat_tests)

pub at_other : (v k : ℕ) → ¬ (v ≡ k) → is_at (nat_cmp v) k ≡ false
at_other v k other = by_case (is_at (nat_cmp v) k) refl where
  by_case : (b : Bool) → is_at (nat_cmp v) k ≡ b → is_at (nat_cmp v) k ≡ false
  by_case true is = absurd (other (at_same v k is))
  by_case false is = is

pub at_is : (v k : ℕ) → is_at (nat_cmp v) k ≡ (k == v)
at_is v k = by_case (k == v) refl where
  by_case : (b : Bool) → (k == v) ≡ b → is_at (nat_cmp v) k ≡ b
  by_case true is = subst (λ (n : ℕ). is_at (nat_cmp v) n ≡ true) (sym (eqb-true k v is)) (at_itself v)
  by_case false is = at_other v k (λ same. eqb-false k v is (sym same))

pub any_at : (n : ℕ) (ks : List ℕ) → list_any (is_at (nat_cmp n)) ks ≡ list_any (λ k. k == n) ks
any_at n [] = refl
any_at n (k ∷ ks) = λ i. at_is n k i || any_at n ks i

-- by whether two numbers are the same
pub by_number : (v w : ℕ) (P : Type 0) → (v ≡ w → P) → (¬ (v ≡ w) → P) → P
by_number v w P same other = by_case (v == w) refl where
  by_case : (b : Bool) → (v == w) ≡ b → P
  by_case true is = same (eqb-true v w is)
  by_case false is = other (eqb-false v w is)

module _ {X : Type 0} where
  -- where all numbers of a table are greater
  missing_above : (g : ℕ) (es : List (ℕ × X)) → AllByRecursion (λ y. nat_cmp g y ≡ Less) (keys_of es)
      → lookup (is_at (nat_cmp g)) es ≡ None
  missing_above g [] above = refl
  missing_above g (e ∷ es) above = rw above.0 (missing_above g es above.1)

  -- ---- an entry is taken out

  above_removed : (low g : ℕ) (es : List (ℕ × X)) → AllByRecursion (λ y. nat_cmp low y ≡ Less) (keys_of es)
      → AllByRecursion (λ y. nat_cmp low y ≡ Less) (keys_of (remove_entry (is_at (nat_cmp g)) es))
  above_removed low g [] above = above
  above_removed low g (e ∷ es) above = elim (is_at (nat_cmp g) e.0) as
      (λ b. AllByRecursion (λ y. nat_cmp low y ≡ Less)
      (keys_of (let l : List (ℕ × X) = cond b es (e ∷ remove_entry (is_at (nat_cmp g)) es) in l))) [
        | true ↦ above.1
        | false ↦ (above.0, above_removed low g es above.1)
      ]

  pub rising_removed : (g : ℕ) (es : List (ℕ × X)) → IsStrictlySortedBy nat_cmp (keys_of es)
      → IsStrictlySortedBy nat_cmp (keys_of (remove_entry (is_at (nat_cmp g)) es))
  unfolding IsStrictlySortedBy
  rising_removed g [] rising = rising
  rising_removed g (e ∷ es) rising = elim (is_at (nat_cmp g) e.0) as
      (λ b. IsStrictlySortedBy nat_cmp
      (keys_of (let l : List (ℕ × X) = cond b es (e ∷ remove_entry (is_at (nat_cmp g)) es) in l))) [
        | true ↦ rising.1
        | false ↦ (above_removed e.0 g es rising.0, rising_removed g es rising.1)
      ]

  pub removed_other : (g w : ℕ) (es : List (ℕ × X)) → ¬ (w ≡ g)
      → lookup (is_at (nat_cmp w)) (remove_entry (is_at (nat_cmp g)) es) ≡ lookup (is_at (nat_cmp w)) es
  removed_other g w [] other = refl
  removed_other g w (e ∷ es) other =
      (elim (is_at (nat_cmp g) e.0) as
      (λ b. is_at (nat_cmp g) e.0 ≡ b
      → lookup (is_at (nat_cmp w)) (let l : List (ℕ × X) = cond b es (e ∷ remove_entry (is_at (nat_cmp g)) es) in l)
      ≡ lookup (is_at (nat_cmp w)) (e ∷ es)) [
        | true ↦ λ is. rw (at_other w e.0 (λ same. other (same ∙ sym (at_same g e.0 is)))) refl
        | false ↦ λ not.
            ap (λ (o : Option X). (let x : Option X = cond (is_at (nat_cmp w) e.0) (Some e.1) o in x))
            (removed_other g w es other)
      ]) refl

  pub removed_itself : (g : ℕ) (es : List (ℕ × X)) → IsStrictlySortedBy nat_cmp (keys_of es)
      → lookup (is_at (nat_cmp g)) (remove_entry (is_at (nat_cmp g)) es) ≡ None
  unfolding IsStrictlySortedBy
  removed_itself g [] rising = refl
  removed_itself g (e ∷ es) rising =
      (elim (is_at (nat_cmp g) e.0) as
      (λ b. is_at (nat_cmp g) e.0 ≡ b
      → lookup (is_at (nat_cmp g)) (let l : List (ℕ × X) = cond b es (e ∷ remove_entry (is_at (nat_cmp g)) es) in l)
      ≡ None) [
        | true ↦ λ is. missing_above g es (subst
            (λ (n : ℕ). AllByRecursion (λ y. nat_cmp n y ≡ Less) (keys_of es)) (sym (at_same g e.0 is)) rising.0)
        | false ↦ λ not. rw not (removed_itself g es rising.1)
      ]) refl

-- ---- a viewer goes

-- what is found among the others was there
found_before : (g w : ℕ) (viewers : List (ℕ × Viewer)) (viewer : Viewer) → IsStrictlySortedBy nat_cmp (keys_of viewers)
    → viewer_in (remove_entry (is_at (nat_cmp g)) viewers) w ≡ Some viewer → viewer_in viewers w ≡ Some viewer
found_before g w viewers viewer rising found = by_number w g (viewer_in viewers w ≡ Some viewer)
    (λ same. absurd (taken (subst
    (λ (n : ℕ). viewer_in (remove_entry (is_at (nat_cmp g)) viewers) n ≡ Some viewer) same found)))
    (λ other. sym (removed_other g w viewers other) ∙ found)
  where
    taken : viewer_in (remove_entry (is_at (nat_cmp g)) viewers) g ≡ Some viewer → ⊥
    taken found = let none = removed_itself g viewers rising in cc

viewers_left : {X : Type 0} (g : ℕ) (texts : Texts (List X)) (viewers : List (ℕ × Viewer)) → AreViewers texts viewers
    → AreViewers texts (remove_entry (is_at (nat_cmp g)) viewers)
viewers_left g texts viewers are = record {
  log = are.log;
  numbers = are.numbers;
  ids = rising_removed g viewers are.ids;
  each = λ v viewer found.
      let old = are.each v viewer (found_before g v viewers viewer are.ids found) in
      record {
        menu = old.menu;
        main = old.main;
        org = old.org;
        not_log = old.not_log;
        no_main = λ w other here. old.no_main w other (found_before g w viewers other are.ids here);
        own = λ w other here. old.own w other (found_before g w viewers other are.ids here);
      };
}

-- ---- what is marked in the others

caret_left : (test : ℕ → Bool) (caret : Option Caret) (x : Caret) → caret_outside test caret ≡ Some x
    → (caret ≡ Some x) × (test x.viewer ≡ false)
caret_left test None x is = absurd cc
caret_left test (Some c) x is = (elim (test c.viewer) as (λ b. test c.viewer ≡ b
    → (let o : Option Caret = cond b None (Some c) in o) ≡ Some x → (Some c ≡ Some x) × (test x.viewer ≡ false)) [
      | true ↦ λ in_it is. absurd cc
      | false ↦ λ out is. (is, (let same : c ≡ x = cc in subst (λ (k : Caret). test k.viewer ≡ false) same out))
    ]) refl is

passed : (b : Bool) → not b ≡ true → b ≡ false
passed true is = absurd cc
passed false is = refl

-- a viewer in a track that is shown stands in a track
pub on_top_placed : (c : Columns) (v : ℕ) → IsOnTop v c → IsPlaced v c
on_top_placed c v top = let placed = shown_placed c v in omega (arith, placed, top)

-- who was shown still is, but for one that goes
abbrev pub StandStill : Columns → Columns → Option ℕ → Type 0
StandStill old new taken = (w : ℕ) → times_shown w old ≤ times_shown w new + times_meant w taken

-- Viewers that don't pass a test keep what is marked, where they are shown still and have main texts as long as before.
module _ (test : ℕ → Bool) (old new : Columns) (long other : ℕ → ℕ)
    (still : (w : ℕ) → test w ≡ false → IsOnTop w old → IsOnTop w new)
    (same : (w : ℕ) → test w ≡ false → IsOnTop w old → other w ≡ long w) where
  caret_still : (x : Caret) → test x.viewer ≡ false → IsCaretPlaced old long x → IsCaretPlaced new other x
  caret_still x out stands = record {
    placed = still x.viewer out stands.placed;
    within = subst (λ n. x.position ≤ n) (sym (same x.viewer out stands.placed)) stands.within;
  }

  selection_still : (s : Selection) → test s.viewer ≡ false → IsSelection old long s → IsSelection new other s
  selection_still s out stands = record {
    placed = still s.viewer out stands.placed;
    some = stands.some;
    within = subst (λ n. s.end ≤ n) (sym (same s.viewer out stands.placed)) stands.within;
  }

  pub marks_outside : (caret : Option Caret) (selections : List Selection) → AreMarks old long caret selections
      → AreMarks new other (caret_outside test caret) (selections_outside test selections)
  marks_outside caret selections are = record {
    caret_stands = λ x here.
        let was = caret_left test caret x here in
        caret_still x was.1 (are.caret_stands x was.0);
    all_stand = λ i s low.
        let at = slice_index_or (selections_outside test selections) i s in
        let out : not (test at.viewer) ≡ true = filter_passes (λ (s : Selection). not (test s.viewer)) selections i s low in
        selection_still at (passed _ out)
        (All-filter (λ (s : Selection). not (test s.viewer)) (IsSelection old long) selections are.all_stand i s low);
    one_each = λ v.
        let parts = sum_by-filter_both (λ (s : Selection). not (test s.viewer)) (λ s. not (not (test s.viewer)))
        (λ s. refl) (λ s. cond (s.viewer == v) 1 0) selections in
        let one = are.one_each v in
        omega (arith, parts, one);
  }

module _ {X : Type 0} (g : ℕ) (texts : Texts (List X)) (viewers : List (ℕ × Viewer)) (old new : Columns)
    (stay : StandStill old new (Some g)) where
  abbrev left : List (ℕ × Viewer)
  left = remove_entry (is_at (nat_cmp g)) viewers

  same_length : (w : ℕ) → ¬ (w ≡ g) → main_length texts left w ≡ main_length texts viewers w
  same_length w other = ap
      (λ (o : Option Viewer). length (text_in texts (unwrap_or o bare_viewer).main)) (removed_other g w viewers other)

  still_on_top : (w : ℕ) → ¬ (w ≡ g) → IsOnTop w old → IsOnTop w new
  still_on_top w other placed =
      let apart : times_meant w (Some g) ≡ 0 = rw (ne_eqb g w (λ same. other (sym same))) refl in
      omega (arith, stay w, apart, placed)

  pub marks_left : (caret : Option Caret) (selections : List Selection)
      → AreMarks old (main_length texts viewers) caret selections
      → AreMarks new (main_length texts left) (caret_outside (λ w. w == g) caret)
      (selections_outside (λ w. w == g) selections)
  marks_left = marks_outside (λ w. w == g) old new (main_length texts viewers) (main_length texts left)
      (λ w out. still_on_top w (eqb-false w g out)) (λ w out top. same_length w (eqb-false w g out))

-- ---- places anew

-- Of a desktop whose viewers come to stand in these columns, where one of them goes: what it was, and who stands where.
pub record IsPlacedAnew (d : Desktop) (columns : Columns) (taken : Option ℕ) : Type 0 where
  pub viewers : AreViewers d.texts d.viewers
  pub marks : AreMarks d.columns (main_length d.texts d.viewers) d.caret d.selections
  pub marker : ForSome d.marker (λ m. (m.0 < COLUMNS) × (m.1 < ROWS))
  pub files : AreFiles d.files
  pub pattern : length d.pattern ≤ most_pattern
  pub looks : HasLooks d
  pub closed_place : ForSome d.closed IsClosedPlace
  pub columns_hold : IsColumns columns
  pub once : (w : ℕ) → times_there columns d.closed w + times_meant w taken
      ≡ (if is_some (viewer_in d.viewers w) then 1 else 0)
  pub stay : StandStill d.columns columns taken

abbrev pub placed_anew : {T : Type 0} → DesktopOf T → Columns → Option ℕ → DesktopOf T
placed_anew d columns taken = record (without_viewer d taken) { columns = columns }

one_less : (there : ℕ) (found : Bool) → there + 1 ≡ cond found 1 0 → there ≡ 0
one_less there true sum = omega (arith, sum)
one_less there false sum = omega (arith, sum)

module _ (d : Desktop) (columns : Columns) where
  once_left : (g w : ℕ) → IsPlacedAnew d columns (Some g) → times_there columns d.closed w
      ≡ (if is_some (viewer_in (remove_entry (is_at (nat_cmp g)) d.viewers) w) then 1 else 0)
  once_left g w are = by_number w g _
      (λ same. one_less _ _ (let meant : times_meant w (Some g) ≡ 1 = rw (eq-eqb g w (sym same)) refl in
      subst (λ n. times_there columns d.closed w + n ≡ (if is_some (viewer_in d.viewers w) then 1 else 0)) meant
      (are.once w))
      ∙ (λ k. if is_some (sym (subst (λ (n : ℕ). viewer_in (remove_entry (is_at (nat_cmp g)) d.viewers) n ≡ None)
      (sym same) (removed_itself g d.viewers are.viewers.ids)) k) then 1 else 0))
      (λ other. let meant : times_meant w (Some g) ≡ 0 = rw (ne_eqb g w (λ same. other (sym same))) refl in
      let sum : times_there columns d.closed w ≡ (if is_some (viewer_in d.viewers w) then 1 else 0)
      = omega (arith, are.once w, meant) in
      sum ∙ (λ k. if is_some (sym (removed_other g w d.viewers other) k) then 1 else 0))

  pub anew_shaped : (taken : Option ℕ) → IsPlacedAnew d columns taken → IsShaped (placed_anew d columns taken)
  anew_shaped None are = record {
    viewers = are.viewers;
    places = record {
      columns_hold = are.columns_hold;
      once = λ w. let sum = are.once w in omega (arith, sum);
      closed_place = are.closed_place;
    };
    marks = record {
      caret_stands = λ x here.
          let stands = are.marks.caret_stands x here in
          record { placed = still x.viewer are stands.placed; within = stands.within };
      all_stand = λ i s low.
          let stands = are.marks.all_stand i s low in
          record { placed = still _ are stands.placed; some = stands.some; within = stands.within };
      one_each = are.marks.one_each;
    };
    marker = are.marker;
    files = are.files;
    pattern = are.pattern;
    looks = looks_stay are.looks refl;
  } where
    still : (w : ℕ) → IsPlacedAnew d columns None → IsOnTop w d.columns → IsOnTop w columns
    still w are placed = let stay = are.stay w in omega (arith, stay, placed)
  anew_shaped (Some g) are = record {
    viewers = viewers_left g d.texts d.viewers are.viewers;
    places = record {
      columns_hold = are.columns_hold;
      once = λ w. once_left g w are;
      closed_place = are.closed_place;
    };
    marks = marks_left g d.texts d.viewers d.columns columns are.stay d.caret d.selections are.marks;
    marker = are.marker;
    files = are.files;
    pattern = are.pattern;
    looks = looks_stay are.looks refl;
  }

  -- where nobody comes
  pub none_comes : (taken : Option ℕ) → IsShaped d → IsColumns columns
      → ((w : ℕ) → times_placed w columns + times_meant w taken ≡ times_placed w d.columns)
      → StandStill d.columns columns taken → IsPlacedAnew d columns taken
  none_comes taken shaped hold places stay = record {
    viewers = shaped.viewers;
    marks = shaped.marks;
    marker = shaped.marker;
    files = shaped.files;
    pattern = shaped.pattern;
    looks = shaped.looks;
    closed_place = shaped.places.closed_place;
    columns_hold = hold;
    once = λ w. let before = shaped.places.once w in let now = places w in omega (arith, before, now);
    stay = stay;
  }

-- ---- texts that no viewer shows are removed

or_right : (a b : Bool) → b ≡ true → a || b ≡ true
or_right true b is = refl
or_right false b is = is

pub keys_filter : {X : Type 0} (test : ℕ → Bool) (es : List (ℕ × X))
    → keys_of (filter (λ e. test e.0) es) ≡ filter test (keys_of es)
keys_filter {X} test [] = refl
keys_filter {X} test (e ∷ es) = elim (test e.0) as
    (λ b. keys_of (let l : List (ℕ × X) = cond b (e ∷ filter (λ e. test e.0) es) (filter (λ e. test e.0) es) in l)
    ≡ (let l : List ℕ = cond b (e.0 ∷ filter test (keys_of es)) (filter test (keys_of es)) in l)) [
      | true ↦ ap (λ (l : List ℕ). e.0 ∷ l) (keys_filter test es)
      | false ↦ keys_filter test es
    ]

shown_by : (viewers : List (ℕ × Viewer)) (v : ℕ) (viewer : Viewer) (test : Viewer → Bool)
    → viewer_in viewers v ≡ Some viewer → test viewer ≡ true → list_any (λ e. test e.1) viewers ≡ true
shown_by [] v viewer test found is = absurd cc
shown_by (e ∷ es) v viewer test found is = (elim (is_at (nat_cmp v) e.0) as
    (λ b. (let o : Option Viewer = cond b (Some e.1) (viewer_in es v) in o) ≡ Some viewer
    → test e.1 || list_any (λ e. test e.1) es ≡ true) [
      | true ↦ λ found. (let same : e.1 ≡ viewer = cc in rw (same, is) refl)
      | false ↦ λ found. or_right (test e.1) _ (shown_by es v viewer test found is)
    ]) found

stay_as : {T : Type 0} (test : ℕ → Bool) (texts : Texts T) → All (λ n. IsTrue (test n)) (keys_of texts)
    → filter (λ e. test e.0) texts ≡ texts
stay_as test [] all = refl
stay_as test (e ∷ es) all = rw (all 0 e.0 (omega arith)) (ap (λ l. e ∷ l) (stay_as test es (All-tail (λ n. IsTrue
    (test n)) e.0 (keys_of es) all)))

-- where all texts are shown none goes
pub all_shown : {T : Type 0} (d : DesktopOf T) → All (λ n. IsTrue (is_shown d.viewers n)) (keys_of d.texts) → without_unshown d ≡ d
unfolding without_unshown
all_shown d all = λ k. record d { texts = stay_as (is_shown d.viewers) d.texts all k }

fewer_lengths : (test : ℕ → Bool) (texts : Texts (Text ℕ)) → lengths (filter (λ e. test e.0) texts) ≤ lengths texts
fewer_lengths test [] = omega arith
fewer_lengths test (e ∷ es) =
    let rest = fewer_lengths test es in
    let all = sum_by-cons length e.1 (values_of es) in
    elim (test e.0) as
    (λ b. lengths (let l : Texts (Text ℕ) = cond b (e ∷ filter (λ e. test e.0) es) (filter (λ e. test e.0) es) in l)
    ≤ lengths (e ∷ es)) [
      | true ↦ (let left = sum_by-cons length e.1 (values_of (filter (λ e. test e.0) es)) in omega
          (arith, rest, all, left))
      | false ↦ omega (arith, rest, all)
    ]

module _ (d : Desktop) where
  pub menu_shown : (v : ℕ) (viewer : Viewer) → viewer_in d.viewers v ≡ Some viewer → is_shown d.viewers viewer.menu ≡ true
  menu_shown v viewer found = or_right (viewer.menu == 0) _
      (shown_by d.viewers v viewer (λ x. (x.menu == viewer.menu) || (x.main == viewer.menu)) found
      (rw (eq-eqb viewer.menu viewer.menu refl) refl))

  pub main_shown : (v : ℕ) (viewer : Viewer) → viewer_in d.viewers v ≡ Some viewer → is_shown d.viewers viewer.main ≡ true
  main_shown v viewer found = or_right (viewer.main == 0) _
      (shown_by d.viewers v viewer (λ x. (x.menu == viewer.main) || (x.main == viewer.main)) found
      (or_right (viewer.menu == viewer.main) _ (eq-eqb viewer.main viewer.main refl)))

  abbrev left_texts : Texts (Text ℕ)
  left_texts = filter (λ e. is_shown d.viewers e.0) d.texts

  text_left : (n : ℕ) → is_shown d.viewers n ≡ true → text_numbered left_texts n ≡ text_numbered d.texts n
  text_left n is =
      lookup-filter-keys (is_at (nat_cmp n)) (is_shown d.viewers) true
      (λ k same. subst (λ (m : ℕ). is_shown d.viewers m ≡ true) (at_same n k same) is) d.texts

  some_left : (n : ℕ) → is_shown d.viewers n ≡ true → IsSome (text_numbered d.texts n) → IsSome (text_numbered left_texts n)
  some_left n is some = subst (λ (o : Option (Text ℕ)). IsSome o) (sym (text_left n is)) some

  length_left : (n : ℕ) → is_shown d.viewers n ≡ true → length (text_in left_texts n) ≡ length (text_in d.texts n)
  length_left n is = ap (λ (o : Option (Text ℕ)). length (unwrap_or o [])) (text_left n is)

  -- each main text is as long as before
  long_left : (v : ℕ) → main_length left_texts d.viewers v ≡ main_length d.texts d.viewers v
  long_left v = by_found (viewer_in d.viewers v) refl where
    by_found : (found : Option Viewer) → viewer_in d.viewers v ≡ found
        → length (text_in left_texts (unwrap_or found bare_viewer).main)
        ≡ length (text_in d.texts (unwrap_or found bare_viewer).main)
    by_found None is = length_left 0 refl
    by_found (Some viewer) is = length_left viewer.main (main_shown v viewer is)

  viewers_shown : AreViewers d.texts d.viewers → AreViewers left_texts d.viewers
  viewers_shown are = record {
    log = some_left 0 refl are.log;
    numbers = subst (IsStrictlySortedBy nat_cmp) (sym (keys_filter (is_shown d.viewers) d.texts))
        (IsStrictlySortedBy-filter nat_cmp (is_shown d.viewers) (keys_of d.texts) are.numbers);
    ids = are.ids;
    each = λ v viewer found.
        let old = are.each v viewer found in
        record {
          menu = some_left viewer.menu (menu_shown v viewer found) old.menu;
          main = some_left viewer.main (main_shown v viewer found) old.main;
          org = subst (λ n. viewer.org ≤ n) (sym (length_left viewer.main (main_shown v viewer found))) old.org;
          not_log = old.not_log;
          no_main = old.no_main;
          own = old.own;
        };
  }

  pub dropped_shaped : IsShaped d → IsShaped (without_unshown d)
  unfolding without_unshown
  dropped_shaped shaped = record {
    viewers = viewers_shown shaped.viewers;
    places = shaped.places;
    marks = record {
      caret_stands = λ x here.
          let stands = shaped.marks.caret_stands x here in
          record {
            placed = stands.placed;
            within = subst (λ n. x.position ≤ n) (sym (long_left x.viewer)) stands.within;
          };
      all_stand = λ i s low.
          let stands = shaped.marks.all_stand i s low in
          record {
            placed = stands.placed;
            some = stands.some;
            within = subst (λ n. (slice_index_or d.selections i s).end ≤ n) (sym (long_left _)) stands.within;
          };
      one_each = shaped.marks.one_each;
    };
    marker = shaped.marker;
    files = shaped.files;
    pattern = shaped.pattern;
    looks = dropped_looks d shaped.looks;
  }

  pub dropped_shown : AllShown (without_unshown d)
  unfolding without_unshown
  dropped_shown = subst (λ (ks : List ℕ). All (λ n. IsTrue (is_shown d.viewers n)) ks)
      (sym (keys_filter (is_shown d.viewers) d.texts))
      (λ i n low. filter_passes (is_shown d.viewers) (keys_of d.texts) i n low)

  pub dropped_held : characters_held (without_unshown d) ≤ characters_held d
  unfolding without_unshown characters_held
  dropped_held =
      let parts = fewer_lengths (is_shown d.viewers) d.texts in
      omega (arith, parts)
