-- Laws of marks, and of where frames begin: what comes and goes leaves a desktop in shape, and changes nothing else.
use Rattle.std.specs.Prelude.{◌≡◌, ◌≤◌, ◌<◌, ℕ, zero, suc, ◌+◌, ◌==◌, not, Bool, true, false, cond, List, [], ◌∷◌}
use Rattle.std.specs.Prelude.{◌++◌, length, All, count_by, filter, if◌then◌else◌, Option, Some, None, is_some}
use Rattle.std.specs.Option.{option_map, unwrap_or, ForSome}
use Rattle.std.specs.List.Sorted.{IsStrictlySortedBy}
use Rattle.std.specs.Map.{lookup, set_value, keys_of}
use Rattle.std.specs.Ordering.{nat_cmp}
use Rattle.std.specs.BTreeMap.{is_at}
use Rattle.std.specs.Cmp.{unsigned_tied}
use Rattle.std.proofs.Common.{refl, sym, ap, subst, ◌∙◌, inl, inr, arith, rules}
use Rattle.std.proofs.lemmas.Bool.{ltb-true}
use Rattle.std.proofs.lemmas.Bool.Decides.{eqb_tells}
use Rattle.std.proofs.lemmas.List.Elements.{All-append, All-filter}
use Rattle.std.proofs.lemmas.List.Sums.{sum_by-cons, sum_by-append}
use Rattle.std.proofs.lemmas.Map.{keys-set_value}
use Rattle.piece_ring.specs.Flat.{flat}
use Rattle.viewer_tracks.specs.declared.display.TheConstants.{ROWS, COLUMNS}
use Rattle.viewer_tracks.specs.Columns.{Columns, IsOnTop}
use Rattle.desktop_definitions.specs.declared.viewer.Viewer.{Viewer}
use Rattle.desktop_definitions.specs.declared.viewer.Caret.{Caret}
use Rattle.desktop_definitions.specs.declared.viewer.Selection.{Selection}
use Rattle.desktop_definitions.proofs.TableLaws.{is_some_map}
use Rattle.desktop_definitions.specs.Desktop.{Desktop, KeptDesktop, characters_held}
use Rattle.desktop_definitions.specs.Viewers.{bare_viewer, viewer_in, viewer_or_none, text_in, main_length}
use Rattle.desktop_definitions.specs.Viewers.{selections_outside, with_org, with_caret, unselected, with_selection}
use Rattle.desktop_definitions.specs.Keys.{without_marks}
use Rattle.desktop_definitions.specs.Gesture.{is_some_stretch, drawn_in}
use Rattle.desktop_definitions.specs.Seen.{seen_table, seen}
use Rattle.desktop_definitions.specs.Step.{marked}
use Rattle.desktop_definitions.specs.Sound.{IsViewer, IsCaretPlaced, IsSelection, AreMarks, IsShaped, IsBuilt}
use Rattle.desktop_definitions.specs.Changed.{texts_shown, IsChanged}
use Rattle.desktop_definitions.proofs.TextLaws.{long_seen}
use Rattle.desktop_definitions.proofs.LookedLaws.{looks_stay, within_stays}

-- ---- one selection in each viewer

count_fewer : {X : Type 0} (p q : X → Bool) (xs : List X) → count_by p (filter q xs) ≤ count_by p xs
count_fewer p q [] = omega arith
count_fewer p q (x ∷ xs) =
    let rest = count_fewer p q xs in
    let all = sum_by-cons (λ x. cond (p x) 1 0) x xs in
    let kept = sum_by-cons (λ x. cond (p x) 1 0) x (filter q xs) in
    elim (q x) as (λ b. count_by p (cond b (x ∷ filter q xs) (filter q xs)) ≤ count_by p (x ∷ xs)) [
      | true ↦ omega (arith, rest, all, kept)
      | false ↦ omega (arith, rest, all)
    ]

none_left : (v : ℕ) (selections : List Selection)
    → count_by (λ s. s.viewer == v) (selections_outside (λ w. w == v) selections) ≡ 0
none_left v [] = refl
none_left v (s ∷ more) =
    let rest = none_left v more in
    let first = sum_by-cons (λ (s : Selection). cond (s.viewer == v) 1 0) s (selections_outside (λ w. w == v) more) in
    (elim (s.viewer == v) as (λ b. s.viewer == v ≡ b
    → count_by (λ (s : Selection). s.viewer == v)
    (cond (not b) (s ∷ selections_outside (λ w. w == v) more) (selections_outside (λ w. w == v) more)) ≡ 0) [
      | true ↦ λ is. rest
      | false ↦ λ is. first ∙ ap (λ b. cond b 1 0
          + count_by (λ (s : Selection). s.viewer == v) (selections_outside (λ w. w == v) more)) is
          ∙ omega (arith, rest)
    ]) refl

-- what took the place of a viewer's selections is its only one
replaced_once : (s : Selection) (selections : List Selection)
    → ((v : ℕ) → count_by (λ t. t.viewer == v) selections ≤ 1) → (v : ℕ)
    → count_by (λ t. t.viewer == v) (selections_outside (λ w. w == s.viewer) selections ++ s ∷ []) ≤ 1
replaced_once s selections once v =
    let f : Selection → ℕ = (λ t. cond (t.viewer == v) 1 0) in
    let others = selections_outside (λ w. w == s.viewer) selections in
    let sum = sum_by-append f others (s ∷ []) in
    let one = sum_by-cons f s [] in
    elim (eqb_tells s.viewer v) [
      | inl here ↦
          let none : count_by (λ t. t.viewer == v) others ≡ 0 =
          subst (λ u. count_by (λ t. t.viewer == u) others ≡ 0) here.1 (none_left s.viewer selections) in
          let this : f s ≡ 1 = ap (λ (b : Bool). let n : ℕ = cond b 1 0 in n) here.0 in
          omega (arith, sum, one, none, this)
      | inr other ↦
          let fewer = count_fewer (λ (t : Selection). t.viewer == v) (λ t. not (t.viewer == s.viewer)) selections in
          let this : f s ≡ 0 = ap (λ (b : Bool). let n : ℕ = cond b 1 0 in n) other.0 in
          let before = once v in
          omega (arith, sum, one, fewer, this, before)
    ]

only_one : {X : Type 0} (P : X → Type 0) (x : X) → P x → All P (x ∷ [])
only_one P x here zero d low = here
only_one P x here (suc i) d low = absurd (omega (arith, low))

module _ (columns : Columns) (long : ℕ → ℕ) where
  pub caret_stands : (v p : ℕ) → IsOnTop v columns → p ≤ long v
      → ForSome (Some (record { viewer = v; position = p })) (IsCaretPlaced columns long)
  caret_stands v p placed within = λ c here.
      let this : record { viewer = v; position = p } ≡ c = cc here in
      subst (IsCaretPlaced columns long) this (record { placed = placed; within = within })

  pub selection_stands : (s : Selection) → IsOnTop s.viewer columns → s.beg < s.end → s.end ≤ long s.viewer
      → All (IsSelection columns long) (s ∷ [])
  selection_stands s placed some within =
      only_one (IsSelection columns long) s (record { placed = placed; some = some; within = within })

-- ---- marks of a desktop that is kept

module _ (n : ℕ) (d : KeptDesktop) (built : IsBuilt n d) (caret : Option Caret) (selections : List Selection)
    (marker : Option (ℕ × ℕ)) where
  -- with these marks
  abbrev remarked : KeptDesktop
  remarked = record d { caret = caret; selections = selections; marker = marker }

  module _ (stand : (characters : List ℕ) → AreMarks d.columns (main_length (seen_table characters d.texts) d.viewers)
      caret selections) (on_display : ForSome marker (λ m. (m.0 < COLUMNS) × (m.1 < ROWS))) where
    pub marks_built : IsBuilt n remarked
    unfolding seen
    marks_built = record {
      within = within_stays built.within refl;
      shaped = λ characters. let before = built.shaped characters in record {
        viewers = before.viewers;
        places = before.places;
        marks = stand characters;
        marker = on_display;
        files = before.files;
        pattern = before.pattern;
        looks = looks_stay before.looks refl;
      };
    }

    pub marks_changed : (H : Type 0) (characters : List ℕ) → n ≡ length characters
        → IsChanged H characters d remarked (seen characters remarked) 0 0
    unfolding seen characters_held
    marks_changed H characters long = record {
      exact = λ h. refl;
      built = subst (λ n. IsBuilt n remarked) long marks_built;
      counted = λ all. refl;
      rest = record { numbers = refl; viewers = refl; written = refl };
    }

-- ---- each mark

module _ (H : Type 0) (characters : List ℕ) (d : KeptDesktop) (built : IsBuilt (length characters) d) where
  within_seen : (v p : ℕ) → p ≤ length (flat (text_in d.texts (viewer_or_none d.viewers v).main)) → (all : List ℕ)
      → p ≤ main_length (seen_table all d.texts) d.viewers v
  within_seen v p low all =
      let long = long_seen all d.texts (viewer_or_none d.viewers v).main in
      omega (arith, long, low)

  marks_before : (all : List ℕ)
      → AreMarks d.columns (main_length (seen_table all d.texts) d.viewers) d.caret d.selections
  unfolding seen
  marks_before all = (built.shaped all).marks

  marker_before : ForSome d.marker (λ m. (m.0 < COLUMNS) × (m.1 < ROWS))
  unfolding seen
  marker_before = (built.shaped characters).marker

  pub with_caret_changed : (v p : ℕ) → IsOnTop v d.columns
      → p ≤ length (flat (text_in d.texts (viewer_or_none d.viewers v).main))
      → IsChanged H characters d (with_caret d v p) (with_caret (seen characters d) v p) 0 0
  unfolding seen
  with_caret_changed v p placed low =
      marks_changed (length characters) d built (Some (record { viewer = v; position = p })) d.selections d.marker
      (λ all. let before = marks_before all in record {
        caret_stands = caret_stands d.columns (main_length (seen_table all d.texts) d.viewers) v p placed
            (within_seen v p low all);
        all_stand = before.all_stand;
        one_each = before.one_each;
      }) marker_before H characters refl

  pub unselected_changed : (v : ℕ)
      → IsChanged H characters d (unselected d v) (unselected (seen characters d) v) 0 0
  unfolding seen
  unselected_changed v =
      marks_changed (length characters) d built d.caret (selections_outside (λ w. w == v) d.selections) d.marker
      (λ all. let before = marks_before all in record {
        caret_stands = before.caret_stands;
        all_stand = All-filter (λ s. not (s.viewer == v))
            (IsSelection d.columns (main_length (seen_table all d.texts) d.viewers)) d.selections before.all_stand;
        one_each = λ w.
            let fewer = count_fewer (λ (t : Selection). t.viewer == w) (λ t. not (t.viewer == v)) d.selections in
            let once = before.one_each w in
            omega (arith, fewer, once);
      }) marker_before H characters refl

  pub with_selection_changed : (s : Selection) → IsOnTop s.viewer d.columns → s.beg < s.end
      → s.end ≤ length (flat (text_in d.texts (viewer_or_none d.viewers s.viewer).main))
      → IsChanged H characters d (with_selection d s) (with_selection (seen characters d) s) 0 0
  unfolding seen
  with_selection_changed s placed some low =
      marks_changed (length characters) d built d.caret
      (selections_outside (λ w. w == s.viewer) d.selections ++ s ∷ []) d.marker
      (λ all. let before = marks_before all in record {
        caret_stands = before.caret_stands;
        all_stand = let P = IsSelection d.columns (main_length (seen_table all d.texts) d.viewers) in
            All-append P (selections_outside (λ w. w == s.viewer) d.selections) (s ∷ [])
            (All-filter (λ t. not (t.viewer == s.viewer)) P d.selections before.all_stand)
            (selection_stands d.columns (main_length (seen_table all d.texts) d.viewers) s placed some
            (within_seen s.viewer s.end low all));
        one_each = replaced_once s d.selections before.one_each;
      }) marker_before H characters refl

  -- what was drawn is selected, or nothing of its viewer is
  pub drawn_in_changed : (s : Selection) → IsOnTop s.viewer d.columns
      → s.end ≤ length (flat (text_in d.texts (viewer_or_none d.viewers s.viewer).main))
      → IsChanged H characters d (drawn_in d s) (drawn_in (seen characters d) s) 0 0
  unfolding drawn_in
  drawn_in_changed s placed low = (elim (is_some_stretch s) as (λ b. is_some_stretch s ≡ b
      → IsChanged H characters d (if b then with_selection d s else unselected d s.viewer)
      (if b then with_selection (seen characters d) s else unselected (seen characters d) s.viewer) 0 0) [
        | true ↦ λ some. with_selection_changed s placed (ltb-true s.beg s.end some) low
        | false ↦ λ none. unselected_changed s.viewer
      ]) refl

  pub escaped_changed : IsChanged H characters d (without_marks d) (without_marks (seen characters d)) 0 0
  unfolding seen without_marks
  escaped_changed =
      marks_changed (length characters) d built None [] None
      (λ all. record {
        caret_stands = λ c here. absurd (cc here);
        all_stand = search rules;
        one_each = λ v. omega arith;
      }) (λ m here. absurd (cc here)) H characters refl

  pub marked_changed : (x y : ℕ) → x < COLUMNS → y < ROWS
      → IsChanged H characters d (marked d x y) (marked (seen characters d) x y) 0 0
  unfolding seen marked
  marked_changed x y column row =
      marks_changed (length characters) d built d.caret d.selections (Some (x, y))
      marks_before (λ m here. let this : (x, y) ≡ m = cc here in
      subst (λ (m : ℕ × ℕ). (m.0 < COLUMNS) × (m.1 < ROWS)) this (column, row)) H characters refl

-- ---- where frames begin

module _ {K X : Type 0} (test : K → Bool) where
  set_same : (es : List (K × X)) (x : X) → lookup test (set_value test es x) ≡ option_map (λ y. x) (lookup test es)
  set_same [] x = refl
  set_same (e ∷ es) x = (elim (test e.0) as (λ b. test e.0 ≡ b
      → lookup test (cond b ((e.0, x) ∷ es) (e ∷ set_value test es x))
      ≡ option_map (λ y. x) (cond b (Some e.1) (lookup test es))) [
        | true ↦ λ is. ap (λ b. cond b (Some x) (lookup test es)) is
        | false ↦ λ is. ap (λ b. cond b (Some e.1) (lookup test (set_value test es x))) is ∙ set_same es x
      ]) refl

  set_other : (p : K → Bool) → ((k : K) → test k ≡ true → p k ≡ false) → (es : List (K × X)) (x : X)
      → lookup p (set_value test es x) ≡ lookup p es
  set_other p apart [] x = refl
  set_other p apart (e ∷ es) x = (elim (test e.0) as (λ b. test e.0 ≡ b
      → lookup p (cond b ((e.0, x) ∷ es) (e ∷ set_value test es x)) ≡ cond (p e.0) (Some e.1) (lookup p es)) [
        | true ↦ λ is. ap (λ b. cond b (Some x) (lookup p es)) (apart e.0 is)
            ∙ sym (ap (λ b. cond b (Some e.1) (lookup p es)) (apart e.0 is))
        | false ↦ λ is. ap (λ (o : Option X). cond (p e.0) (Some e.1) o) (set_other p apart es x)
      ]) refl

keys_apart : (v w k : ℕ) → ¬ (w ≡ v) → is_at (nat_cmp v) k ≡ true → is_at (nat_cmp w) k ≡ false
keys_apart v w k apart here = elim (eqb_tells w k) [
  | inl same ↦ elim (eqb_tells v k) [
    | inl also ↦ absurd (apart (same.1 ∙ sym also.1))
    | inr not ↦ absurd (let no : true ≡ false = sym here ∙ unsigned_tied v k ∙ not.0 in cc no)
  ]
  | inr other ↦ unsigned_tied w k ∙ other.0
]

-- the viewer with another org
abbrev moved_to : ℕ → Viewer → Viewer
moved_to org x = record x { org = org }

-- the org of a viewer w, where that of v was set
abbrev org_in : ℕ → ℕ → ℕ → Viewer → ℕ
org_in v org w x = if w == v then org else x.org

abbrev moved_in : List (ℕ × Viewer) → ℕ → ℕ → List (ℕ × Viewer)
moved_in viewers v org = set_value (is_at (nat_cmp v)) viewers (moved_to org (viewer_or_none viewers v))

moved_here : (org : ℕ) (found : Option Viewer)
    → option_map (λ y. moved_to org (unwrap_or found bare_viewer)) found ≡ option_map (λ x. moved_to org x) found
moved_here org None = refl
moved_here org (Some x) = refl

kept_there : (found : Option Viewer) → found ≡ option_map (λ x. moved_to x.org x) found
kept_there None = refl
kept_there (Some x) = refl

found_moved : (viewers : List (ℕ × Viewer)) (v org w : ℕ)
    → viewer_in (moved_in viewers v org) w ≡ option_map (λ x. moved_to (org_in v org w x) x) (viewer_in viewers w)
found_moved viewers v org w = elim (eqb_tells w v) [
  | inl same ↦
      subst (λ u. viewer_in (moved_in viewers v org) u ≡ option_map (λ x. moved_to org x) (viewer_in viewers u))
      (sym same.1)
      (set_same (is_at (nat_cmp v)) viewers (moved_to org (viewer_or_none viewers v))
      ∙ moved_here org (viewer_in viewers v))
      ∙ sym (ap (λ (b : Bool). option_map (λ (x : Viewer). moved_to (if b then org else x.org) x) (viewer_in viewers w))
      same.0)
  | inr other ↦
      set_other (is_at (nat_cmp v)) (is_at (nat_cmp w)) (λ k here. keys_apart v w k other.1 here) viewers
      (moved_to org (viewer_or_none viewers v))
      ∙ kept_there (viewer_in viewers w)
      ∙ sym (ap (λ (b : Bool). option_map (λ (x : Viewer). moved_to (if b then org else x.org) x) (viewer_in viewers w))
      other.0)
]

shown_moved : (test : ℕ → Bool) (viewers : List (ℕ × Viewer)) (org : ℕ)
    → texts_shown (set_value test viewers (moved_to org (unwrap_or (lookup test viewers) bare_viewer)))
    ≡ texts_shown viewers
shown_moved test [] org = refl
shown_moved test (e ∷ es) org = elim (test e.0) as
    (λ b. texts_shown (cond b ((e.0, moved_to org (unwrap_or (cond b (Some e.1) (lookup test es)) bare_viewer)) ∷ es)
    (e ∷ set_value test es (moved_to org (unwrap_or (cond b (Some e.1) (lookup test es)) bare_viewer))))
    ≡ texts_shown (e ∷ es)) [
      | true ↦ refl
      | false ↦ ap (λ (l : List (ℕ × ℕ × ℕ)). (e.0, e.1.menu, e.1.main) ∷ l) (shown_moved test es org)
    ]

-- What was found after each viewer got an org of f was there before.
record Was (f : Viewer → ℕ) (found : Option Viewer) (now : Viewer) : Type 0 where
  was : Viewer
  here : found ≡ Some was
  is : now ≡ moved_to (f was) was

found_was : (f : Viewer → ℕ) (found : Option Viewer) (now : Viewer)
    → option_map (λ x. moved_to (f x) x) found ≡ Some now → Was f found now
found_was f None now is = absurd (cc is)
found_was f (Some x) now is = record { was = x; here = refl; is = (let e : moved_to (f x) x ≡ now = cc is in sym e) }

same_main : (f : Viewer → ℕ) (found : Option Viewer)
    → (unwrap_or (option_map (λ x. moved_to (f x) x) found) bare_viewer).main ≡ (unwrap_or found bare_viewer).main
same_main f None = refl
same_main f (Some x) = refl

-- each viewer begins elsewhere in its main text, at f of its id and of itself
module _ (x : Desktop) (shaped : IsShaped x) (viewers : List (ℕ × Viewer)) (f : ℕ → Viewer → ℕ)
    (ids : keys_of viewers ≡ keys_of x.viewers)
    (found : (w : ℕ) → viewer_in viewers w ≡ option_map (λ y. moved_to (f w y) y) (viewer_in x.viewers w))
    (within : (w : ℕ) (y : Viewer) → viewer_in x.viewers w ≡ Some y → f w y ≤ length (text_in x.texts y.main)) where
  was_there : (w : ℕ) (now : Viewer) → viewer_in viewers w ≡ Some now → Was (f w) (viewer_in x.viewers w) now
  was_there w now here = found_was (f w) (viewer_in x.viewers w) now (sym (found w) ∙ here)

  is_viewer : (w : ℕ) (was : Viewer) → viewer_in x.viewers w ≡ Some was
      → IsViewer x.texts viewers w (moved_to (f w was) was)
  is_viewer w was here = let before = shaped.viewers.each w was here in record {
    menu = before.menu;
    main = before.main;
    org = within w was here;
    not_log = before.not_log;
    no_main = λ u other there same. let old = was_there u other there in
        before.no_main u old.was old.here (sym (ap (λ (y : Viewer). y.main) old.is) ∙ same);
    own = λ u other there same. let old = was_there u other there in
        before.own u old.was old.here (sym (ap (λ (y : Viewer). y.menu) old.is) ∙ same);
  }

  long_as : (w : ℕ) → main_length x.texts x.viewers w ≡ main_length x.texts viewers w
  long_as w = ap (λ n. length (text_in x.texts n))
      (sym (ap (λ (o : Option Viewer). (unwrap_or o bare_viewer).main) (found w)
      ∙ same_main (f w) (viewer_in x.viewers w)))

  pub orgs_shaped : IsShaped (record x { viewers = viewers })
  orgs_shaped = record {
    viewers = record {
      log = shaped.viewers.log;
      numbers = shaped.viewers.numbers;
      ids = subst (IsStrictlySortedBy nat_cmp) (sym ids) shaped.viewers.ids;
      each = λ w now here. let old = was_there w now here in
          subst (IsViewer x.texts viewers w) (sym old.is) (is_viewer w old.was old.here);
    };
    places = record {
      columns_hold = shaped.places.columns_hold;
      once = λ w. shaped.places.once w
          ∙ ap (λ (b : Bool). if b then 1 else 0)
          (sym (ap (λ (o : Option Viewer). is_some o) (found w)
          ∙ is_some_map (λ (y : Viewer). moved_to (f w y) y) (viewer_in x.viewers w)));
      closed_place = shaped.places.closed_place;
    };
    marks = subst (λ (long : ℕ → ℕ). AreMarks x.columns long x.caret x.selections) (λ k w. long_as w k) shaped.marks;
    marker = shaped.marker;
    files = shaped.files;
    pattern = shaped.pattern;
    looks = looks_stay shaped.looks refl;
  }

module _ (H : Type 0) (characters : List ℕ) (d : KeptDesktop) (built : IsBuilt (length characters) d) (v org : ℕ)
    (low : org ≤ length (flat (text_in d.texts (viewer_or_none d.viewers v).main))) where
  org_within : (all : List ℕ) (w : ℕ) (y : Viewer) → viewer_in d.viewers w ≡ Some y
      → org_in v org w y ≤ length (text_in (seen_table all d.texts) y.main)
  unfolding seen
  org_within all w y here = elim (eqb_tells w v) [
    | inl same ↦
        let this : viewer_or_none d.viewers v ≡ y =
        ap (λ u. viewer_or_none d.viewers u) (sym same.1) ∙ ap (λ (o : Option Viewer). unwrap_or o bare_viewer) here in
        let long = long_seen all d.texts y.main in
        let low_here : org ≤ length (flat (text_in d.texts y.main)) =
        subst (λ (x : Viewer). org ≤ length (flat (text_in d.texts x.main))) this low in
        subst (λ (b : Bool). (if b then org else y.org) ≤ length (text_in (seen_table all d.texts) y.main)) (sym same.0)
        (omega (arith, long, low_here))
    | inr other ↦
        subst (λ (b : Bool). (if b then org else y.org) ≤ length (text_in (seen_table all d.texts) y.main))
        (sym other.0)
        ((built.shaped all).viewers.each w y here).org
  ]

  pub with_org_changed : IsChanged H characters d (with_org d v org) (with_org (seen characters d) v org) 0 0
  unfolding seen characters_held
  with_org_changed = record {
    exact = λ h. refl;
    built = record {
      within = within_stays built.within refl;
      shaped = λ all. orgs_shaped (seen all d) (built.shaped all) (moved_in d.viewers v org) (org_in v org)
          (keys-set_value (is_at (nat_cmp v)) d.viewers (moved_to org (viewer_or_none d.viewers v)))
          (found_moved d.viewers v org) (org_within all);
    };
    counted = λ all. refl;
    rest = record {
      numbers = refl;
      viewers = shown_moved (is_at (nat_cmp v)) d.viewers org;
      written = refl;
    };
  }
