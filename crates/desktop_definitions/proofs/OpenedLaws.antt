-- Laws of an opening: the desktop after it stays shaped, is seen as the opening of what is seen, and what it holds.
use Rattle.std.specs.Prelude.{◌≡◌, ℕ, ◌+◌, ◌≤◌, ◌==◌, ◌||◌, Bool, true, false, IsSome, is_some}
use Rattle.std.specs.Prelude.{if◌then◌else◌, List, length, filter, Option, Some, None}
use Rattle.std.specs.List.{list_any}
use Rattle.std.specs.Map.{keys_of, remove_entry}
use Rattle.std.specs.Ordering.{nat_cmp}
use Rattle.std.specs.BTreeMap.{is_at, insert_entry}
use Rattle.std.proofs.Common.{refl, sym, ap, subst, ◌∙◌, arith}
use Rattle.std.proofs.lemmas.Bool.{eq-eqb, ne_eqb, ltb-false}
use Rattle.std.proofs.lemmas.Cmp.{nat_cmp_total}
use Rattle.std.proofs.lemmas.Map.Made.{is_some-lookup, keys_of-map_values}
use Rattle.std.proofs.lemmas.Map.Views.{All-values-insert_entry}
use Rattle.piece_ring.specs.declared.piece.Piece.{Piece}
use Rattle.piece_ring.specs.Flat.{flat}
use Rattle.piece_ring.specs.Text.{Text, AreWithin}
use Rattle.viewer_tracks.specs.declared.display.Track.{Track}
use Rattle.viewer_tracks.specs.declared.display.Track.TheVariants.{User, System}
use Rattle.viewer_tracks.specs.Display.{track_at, left_of}
use Rattle.viewer_tracks.specs.Viewers.{times_in}
use Rattle.viewer_tracks.specs.Columns.{Columns, IsColumns, IsOnTop, times_placed, times_meant, shown_track}
use Rattle.viewer_tracks.specs.Columns.{after_open, after_open_track, replaced_at}
use Rattle.viewer_tracks.proofs.PlacedLemmas.{cover_places, cover_shows}
use Rattle.desktop_definitions.specs.declared.viewer.Caret.{Caret}
use Rattle.desktop_definitions.specs.declared.viewer.Selection.{Selection}
use Rattle.desktop_definitions.specs.declared.viewer.Viewer.{Viewer}
use Rattle.desktop_definitions.specs.Tables.{Texts, text_numbered, lengths, with_values}
use Rattle.desktop_definitions.proofs.TableLaws.{insert_seen, rising_put}
use Rattle.desktop_definitions.specs.Desktop.{Desktop, DesktopOf, KeptDesktop, characters_held}
use Rattle.desktop_definitions.specs.Viewers.{viewer_in, main_length, without_viewer, opened_at, text_of, unmarked}
use Rattle.desktop_definitions.specs.Viewers.{is_shown_in, covered_by, caret_outside, selections_outside}
use Rattle.desktop_definitions.specs.Opening.{least_unused, with_new, new_number, new_id, new_viewer, with_viewer}
use Rattle.desktop_definitions.specs.Opening.{opening_on, opening_over, after_opening, without_unshown}
use Rattle.desktop_definitions.specs.Seen.{seen, seen_text}
use Rattle.desktop_definitions.specs.Sound.{AreViewers, AreMarks, times_there, IsShaped, IsBuilt}
use Rattle.desktop_definitions.proofs.PlaceLaws.{any_at, by_number, StandStill, marks_outside, IsPlacedAnew}
use Rattle.desktop_definitions.proofs.PlaceLaws.{placed_anew}
use Rattle.desktop_definitions.proofs.PlacedLaws.{seen_anew}
use Rattle.desktop_definitions.proofs.OpenLaws.{unused_none, put_itself, put_other, apart_from, same_marks, IsTextMore}
use Rattle.desktop_definitions.proofs.OpenLaws.{not_new, some_stays, length_stays, text_viewers, text_long, IsViewerMore}
use Rattle.desktop_definitions.proofs.OpenLaws.{viewer_viewers, viewer_long, on_top_known}
use Rattle.desktop_definitions.proofs.HeldLaws.{any_put, any_put_without, lengths_put, filter_alike}
use Rattle.desktop_definitions.specs.Looks.{AreLooks}
use Rattle.desktop_definitions.proofs.LookedLaws.{seen_looks, looks_stay, new_looks}

pub left_at : (k : Track) → track_at (left_of k) ≡ k
left_at User = refl
left_at System = refl

-- where a new viewer comes to stand: at a cell, or in a new track over the one that a column shows
pub data NewPlace : Type 0 where
  at_cell : ℕ × ℕ → NewPlace
  over : Track → NewPlace

module _ {T : Type 0} (d : DesktopOf T) where
  -- a text more, which nobody shows yet
  abbrev pub text_more : T → DesktopOf T
  text_more text = record d { texts = with_new d.texts text }

  abbrev pub new_viewers : ℕ → ℕ → List (ℕ × Viewer)
  new_viewers main org = insert_entry nat_cmp d.viewers (new_id d) (new_viewer d main org)

  pub opening_on_is : (menu : T) (main org : ℕ) (cell : ℕ × ℕ) → opening_on d menu main org cell
      ≡ placed_anew (with_viewer d menu main org) (after_open d.columns (new_id d) cell.0 cell.1)
      (replaced_at d.columns cell.0 cell.1)
  unfolding opening_on opened_at
  opening_on_is menu main org cell = refl

  pub opening_is : (menu main : T) (cell : ℕ × ℕ) → after_opening d menu main cell
      ≡ opening_on (text_more main) menu (new_number d) 0 cell
  unfolding after_opening
  opening_is menu main cell = refl

  -- the columns with the new viewer's track over the one that a column showed
  abbrev pub columns_over : Track → Columns
  columns_over k = after_open_track d.columns (new_id d) (left_of k)

  -- the new viewer has its track, and in the one under it nothing is marked
  abbrev pub covered_desktop : T → ℕ → ℕ → Track → DesktopOf T
  covered_desktop menu main org k =
      record (unmarked (is_shown_in d k) (with_viewer d menu main org)) { columns = columns_over k }

  pub opening_over_is : (menu : T) (main org : ℕ) (k : Track) → opening_over d menu main org k
      ≡ placed_anew (covered_desktop menu main org k) (columns_over k) None
  unfolding opening_over covered_by
  opening_over_is menu main org k = refl

  -- a new viewer with a menu of its own on a text that is there, which stands in a place
  abbrev pub opening_to : T → ℕ → ℕ → NewPlace → DesktopOf T
  opening_to menu main org (at_cell cell) = opening_on d menu main org cell
  opening_to menu main org (over k) = opening_over d menu main org k

some_of : {A : Type 0} (o : Option A) (a : A) → o ≡ Some a → IsSome o
some_of {A} o a is = subst (λ (x : Option A). IsSome x) (sym is) refl

-- ---- a text more

-- A new viewer can show a text from a position on: it is there and nobody's menu, and the position is within it.
pub record CanShow (d : Desktop) (main org : ℕ) : Type 0 where
  pub there : IsSome (text_numbered d.texts main)
  pub within : org ≤ length (text_of d main)
  pub no_menu : (w : ℕ) (other : Viewer) → viewer_in d.viewers w ≡ Some other → ¬ (main ≡ other.menu)

module _ (d : Desktop) (text : Text ℕ) (shaped : IsShaped d) where
  is_text_more : IsTextMore d.texts (with_new d.texts text) (new_number d)
  is_text_more = record {
    none = unused_none d.texts;
    others = λ k other. put_other d.texts (new_number d) k text other (unused_none d.texts);
    numbers = rising_put nat_cmp_total (new_number d) text d.texts shaped.viewers.numbers;
  }

  pub text_shaped : AreLooks text → IsShaped (text_more d text)
  text_shaped looks = record {
    viewers = text_viewers d.texts (with_new d.texts text) (new_number d) is_text_more d.viewers shaped.viewers;
    places = shaped.places;
    marks = same_marks d.columns (main_length d.texts d.viewers) (main_length (with_new d.texts text) d.viewers)
        d.caret d.selections
        (λ w top. text_long d.texts (with_new d.texts text) (new_number d) is_text_more d.viewers shaped.viewers w
        (on_top_known d.viewers d.columns d.closed w shaped.places top)) shaped.marks;
    marker = shaped.marker;
    files = shaped.files;
    pattern = shaped.pattern;
    looks = new_looks d shaped.looks text looks;
  }

  pub new_shown : CanShow (text_more d text) (new_number d) 0
  new_shown = record {
    there = some_of _ text (put_itself d.texts (new_number d) text);
    within = omega arith;
    no_menu = λ w other found is. not_new d.texts (with_new d.texts text) (new_number d) is_text_more other.menu
        (shaped.viewers.each w other found).menu (sym is);
  }

-- ---- a viewer more

module _ (d : Desktop) (menu : Text ℕ) (main org : ℕ) (shaped : IsShaped d) (can : CanShow d main org) where
  abbrev texts : Texts (Text ℕ)
  texts = with_new d.texts menu

  abbrev more : IsTextMore d.texts texts (new_number d)
  more = is_text_more d menu shaped

  abbrev text_apart : (k : ℕ) → IsSome (text_numbered d.texts k) → ¬ (k ≡ new_number d)
  text_apart k some = not_new d.texts texts (new_number d) more k some

  is_viewer_more : IsViewerMore texts d.viewers (new_viewers d main org) (new_id d) (new_viewer d main org)
  is_viewer_more = record {
    none = unused_none d.viewers;
    there = put_itself d.viewers (new_id d) (new_viewer d main org);
    others = λ w other. put_other d.viewers (new_id d) w (new_viewer d main org) other (unused_none d.viewers);
    ids = rising_put nat_cmp_total (new_id d) (new_viewer d main org) d.viewers shaped.viewers.ids;
    menu = some_of _ menu (put_itself d.texts (new_number d) menu);
    main = some_stays d.texts texts (new_number d) more main can.there;
    org = subst (λ n. org ≤ n) (sym (length_stays d.texts texts (new_number d) more main can.there)) can.within;
    not_log = λ is. text_apart 0 shaped.viewers.log (sym is);
    apart = λ is. text_apart main can.there is;
    main_no_menu = can.no_menu;
    menu_no_main = λ w other found is. text_apart other.main (shaped.viewers.each w other found).main is;
    menu_own = λ w other found is. text_apart other.menu (shaped.viewers.each w other found).menu is;
  }

  abbrev found : List (ℕ × Viewer) → ℕ → ℕ
  found viewers w = if is_some (viewer_in viewers w) then 1 else 0

  long_stays : (w : ℕ) → IsOnTop w d.columns
      → main_length texts (new_viewers d main org) w ≡ main_length d.texts d.viewers w
  long_stays w top =
      let some = on_top_known d.viewers d.columns d.closed w shaped.places top in
      viewer_long texts d.viewers (new_viewers d main org) (new_id d) (new_viewer d main org) is_viewer_more
      (text_viewers d.texts texts (new_number d) more d.viewers shaped.viewers) w some
      ∙ text_long d.texts texts (new_number d) more d.viewers shaped.viewers w some

  viewers_anew : AreViewers texts (new_viewers d main org)
  viewers_anew = viewer_viewers texts d.viewers (new_viewers d main org) (new_id d) (new_viewer d main org)
      is_viewer_more (text_viewers d.texts texts (new_number d) more d.viewers shaped.viewers)

  module _ (columns : Columns) (taken : Option ℕ) (hold : IsColumns columns)
      (places : (w : ℕ) → times_placed w columns + times_meant w taken
      ≡ times_placed w d.columns + times_meant w (Some (new_id d))) where
    once_new : times_there columns d.closed (new_id d) + times_meant (new_id d) taken
        ≡ found (new_viewers d main org) (new_id d)
    once_new =
        let v = new_id d in
        let meant : times_meant v (Some v) ≡ 1 = rw (eq-eqb v v refl) refl in
        let none : times_there d.columns d.closed v ≡ 0
        = shaped.places.once v ∙ (λ k. if is_some (is_viewer_more.none k) then 1 else 0) in
        let one : found (new_viewers d main org) v ≡ 1 = λ k. if is_some (is_viewer_more.there k) then 1 else 0 in
        let all = places v in
        omega (arith, meant, none, one, all)

    once_other : (w : ℕ) → ¬ (w ≡ new_id d)
        → times_there columns d.closed w + times_meant w taken ≡ found (new_viewers d main org) w
    once_other w other =
        let meant : times_meant w (Some (new_id d)) ≡ 0
        = rw (ne_eqb (new_id d) w (λ same. other (sym same))) refl in
        let same : found (new_viewers d main org) w ≡ found d.viewers w
        = λ k. if is_some (is_viewer_more.others w other k) then 1 else 0 in
        let all = places w in
        let before : times_there d.columns d.closed w ≡ found d.viewers w = shaped.places.once w in
        omega (arith, meant, same, all, before)

    once_anew : (w : ℕ) → times_there columns d.closed w + times_meant w taken ≡ found (new_viewers d main org) w
    once_anew w = by_number w (new_id d) _
        (λ same. subst (λ (n : ℕ). times_there columns d.closed n + times_meant n taken
        ≡ found (new_viewers d main org) n) (sym same) once_new)
        (once_other w)

    -- with these marks, from these columns on
    marked_anew : (before : Columns) (caret : Option Caret) (selections : List Selection)
        → AreMarks before (main_length texts (new_viewers d main org)) caret selections → AreLooks menu
        → StandStill before columns taken
        → IsPlacedAnew (record (with_viewer d menu main org) {
          columns = before;
          caret = caret;
          selections = selections;
        }) columns taken
    marked_anew before caret selections marks looks stay = record {
      viewers = viewers_anew;
      marks = marks;
      marker = shaped.marker;
      files = shaped.files;
      pattern = shaped.pattern;
      looks = looks_stay (new_looks d shaped.looks menu looks) refl;
      closed_place = shaped.places.closed_place;
      columns_hold = hold;
      once = once_anew;
      stay = stay;
    }

    pub opening_anew : StandStill d.columns columns taken → AreLooks menu
        → IsPlacedAnew (with_viewer d menu main org) columns taken
    opening_anew stay looks = marked_anew d.columns d.caret d.selections
        (same_marks d.columns (main_length d.texts d.viewers) (main_length texts (new_viewers d main org))
        d.caret d.selections long_stays shaped.marks) looks stay

  module _ (k : Track) (hold : IsColumns (columns_over d k)) where
    -- who isn't in the covered track is shown still
    still_on_top : (w : ℕ) → is_shown_in d k w ≡ false → IsOnTop w d.columns → IsOnTop w (columns_over d k)
    still_on_top w out top =
        let none = ltb-false 0 (times_in w (shown_track d.columns k)) out in
        let sum = cover_shows d.columns (new_id d) (left_of k) w in
        let there = ap (λ (j : Track). times_in w (shown_track d.columns j)) (left_at k) in
        omega (arith, none, sum, there, top)

    pub covering_anew : AreLooks menu → IsPlacedAnew (covered_desktop d menu main org k) (columns_over d k) None
    covering_anew looks = marked_anew (columns_over d k) None hold
        (λ w. let sum = cover_places d.columns (new_id d) (left_of k) w in omega (arith, sum)) (columns_over d k)
        (caret_outside (is_shown_in d k) d.caret) (selections_outside (is_shown_in d k) d.selections)
        (marks_outside (is_shown_in d k) d.columns (columns_over d k) (main_length d.texts d.viewers)
        (main_length texts (new_viewers d main org)) still_on_top (λ w out top. long_stays w top) d.caret
        d.selections shaped.marks) looks (λ w. omega arith)

-- ---- as it is seen

new_seen : {T U : Type 0} (f : T → U) (es : Texts T) (t : T)
    → with_values f (with_new es t) ≡ with_new (with_values f es) (f t)
new_seen f es t =
    insert_seen f nat_cmp es (least_unused (keys_of es)) t
    ∙ (λ k. insert_entry nat_cmp (with_values f es) (least_unused (sym (keys_of-map_values f es) k)) (f t))

module _ (characters : List ℕ) (d : KeptDesktop) where
  number_seen : new_number (seen characters d) ≡ new_number d
  unfolding seen
  number_seen = ap least_unused (keys_of-map_values (seen_text characters) d.texts)

  pub seen_text_more : (text : List Piece)
      → seen characters (text_more d text) ≡ text_more (seen characters d) (seen_text characters text)
  unfolding seen
  seen_text_more text = λ k. record (seen characters d) { texts = new_seen (seen_text characters) d.texts text k }

  seen_opening_on : (menu : List Piece) (main org : ℕ) (cell : ℕ × ℕ)
      → seen characters (opening_on d menu main org cell)
      ≡ opening_on (seen characters d) (seen_text characters menu) main org cell
  unfolding seen
  seen_opening_on menu main org cell =
      let f = seen_text characters in
      let columns = after_open d.columns (new_id d) cell.0 cell.1 in
      let taken = replaced_at d.columns cell.0 cell.1 in
      ap (seen characters) (opening_on_is d menu main org cell)
      ∙ seen_anew characters (with_viewer d menu main org) columns taken
      ∙ (λ k. placed_anew (record (seen characters d) {
        texts = new_seen f d.texts menu k;
        viewers = insert_entry nat_cmp d.viewers (new_id d)
            (record { menu = sym number_seen k; main = main; org = org });
      }) columns taken)
      ∙ sym (opening_on_is (seen characters d) (f menu) main org cell)

  seen_opening_over : (menu : List Piece) (main org : ℕ) (k : Track)
      → seen characters (opening_over d menu main org k)
      ≡ opening_over (seen characters d) (seen_text characters menu) main org k
  unfolding seen opening_over covered_by
  seen_opening_over menu main org k = λ i. covered_by (record (seen characters d) {
    texts = new_seen (seen_text characters) d.texts menu i;
    viewers = insert_entry nat_cmp d.viewers (new_id d) (record { menu = sym number_seen i; main = main; org = org });
  }) (new_id d) k

  pub seen_opening_to : (menu : List Piece) (main org : ℕ) (place : NewPlace)
      → seen characters (opening_to d menu main org place)
      ≡ opening_to (seen characters d) (seen_text characters menu) main org place
  seen_opening_to menu main org (at_cell cell) = seen_opening_on menu main org cell
  seen_opening_to menu main org (over k) = seen_opening_over menu main org k

  -- an opening of what is seen, where its main text comes first
  pub opening_seen : (menu : Text ℕ) (main : List Piece) (cell : ℕ × ℕ)
      → opening_on (seen characters (text_more d main)) menu (new_number d) 0 cell
      ≡ after_opening (seen characters d) menu (seen_text characters main) cell
  opening_seen menu main cell =
      (λ k. opening_on (seen_text_more main k) menu (sym number_seen k) 0 cell)
      ∙ sym (opening_is (seen characters d) menu (seen_text characters main) cell)

pub text_built : (n : ℕ) (d : KeptDesktop) (text : List Piece) → IsBuilt n d → AreWithin n (flat text)
    → AreLooks (flat text) → IsBuilt n (text_more d text)
text_built n d text built within looks = record {
  within = record {
    texts = All-values-insert_entry nat_cmp (new_number d) text (λ pieces. AreWithin n (flat pieces)) d.texts
        built.within.texts within;
    files = built.within.files;
    copied = built.within.copied;
    deleted = built.within.deleted;
  };
  shaped = λ characters. subst IsShaped (sym (seen_text_more characters d text))
      (text_shaped (seen characters d) (seen_text characters text) (built.shaped characters)
      (seen_looks characters text looks));
}

pub new_kept : (d : KeptDesktop) (text : List Piece) → ((characters : List ℕ) → IsShaped (seen characters d))
    → (characters : List ℕ) → CanShow (seen characters (text_more d text)) (new_number d) 0
new_kept d text shaped characters =
    subst (λ (p : Desktop × ℕ). CanShow p.0 p.1 0)
    (λ k. (sym (seen_text_more characters d text) k, number_seen characters d k))
    (new_shown (seen characters d) (seen_text characters text) (shaped characters))

-- ---- what it holds

or_true : (a b : Bool) → b ≡ true → a || b ≡ true
or_true true b is = refl
or_true false b is = is

abbrev pub shows_text : ℕ → Viewer → Bool
shows_text n viewer = (viewer.menu == n) || (viewer.main == n)

-- the viewers without the one that goes, and whether one of them shows a text
abbrev pub left_viewers : Option ℕ → List (ℕ × Viewer) → List (ℕ × Viewer)
left_viewers None viewers = viewers
left_viewers (Some g) viewers = remove_entry (is_at (nat_cmp g)) viewers

abbrev pub by_others : Option ℕ → List (ℕ × Viewer) → ℕ → Bool
by_others taken viewers n = list_any (λ e. shows_text n e.1) (left_viewers taken viewers)

held_without : (d : Desktop) (taken : Option ℕ) → characters_held (without_unshown (without_viewer d taken))
    ≡ lengths (filter (λ e. (e.0 == 0) || by_others taken d.viewers e.0) d.texts) + lengths d.files
    + length d.copied + length d.deleted
unfolding characters_held without_unshown
held_without d None = refl
held_without d (Some g) = refl

held_anew : (d : Desktop) (columns : Columns) (taken : Option ℕ) → characters_held (without_unshown (placed_anew d columns taken))
    ≡ lengths (filter (λ e. (e.0 == 0) || by_others taken d.viewers e.0) d.texts) + lengths d.files
    + length d.copied + length d.deleted
unfolding characters_held without_unshown
held_anew d columns None = refl
held_anew d columns (Some g) = refl

by_one_more : (n v : ℕ) (viewer : Viewer) (viewers : List (ℕ × Viewer)) (taken : Option ℕ)
    → times_meant v taken ≡ 0 → viewer_in viewers v ≡ None
    → by_others taken (insert_entry nat_cmp viewers v viewer) n ≡ shows_text n viewer || by_others taken viewers n
by_one_more n v viewer viewers None apart none = any_put (shows_text n) v viewer viewers none
by_one_more n v viewer viewers (Some g) apart none =
    any_put_without (shows_text n) v viewer g viewers
    (λ same. let one : times_meant v (Some g) ≡ 1 = rw (eq-eqb g v same) refl in absurd (omega (arith, one, apart)))
    none

there_is : {A : Type 0} (o : Option A) → is_some o ≡ true → (a : A) × (o ≡ Some a)
there_is None some = absurd cc
there_is (Some a) some = (a, refl)

-- the number of a new text is none of those that are there
new_apart : {T : Type 0} (texts : Texts T) (k : ℕ) → list_any (λ j. j == k) (keys_of texts) ≡ true
    → (least_unused (keys_of texts) == k) ≡ false
new_apart texts k there =
    let found = there_is (text_numbered texts k)
    (is_some-lookup (is_at (nat_cmp k)) texts ∙ any_at k (keys_of texts) ∙ there) in
    ne_eqb _ k (λ same. apart_from texts (least_unused (keys_of texts)) k found.0 (unused_none texts) found.1
    (sym same))

-- the lengths of the texts that stay once there is a new one, which stays
module _ (texts : Texts (Text ℕ)) (text : Text ℕ) (test rest : ℕ → Bool)
    (new : test (least_unused (keys_of texts)) ≡ true)
    (old : (k : ℕ) → (least_unused (keys_of texts) == k) ≡ false → test k ≡ rest k) where
  lengths_new : lengths (filter (λ e. test e.0) (with_new texts text))
      ≡ lengths (filter (λ e. rest e.0) texts) + length text
  lengths_new =
      let all = lengths_put test texts (least_unused (keys_of texts)) text (unused_none texts) new in
      let same = ap lengths (filter_alike test rest texts (λ k there. old k (new_apart texts k there))) in
      omega (arith, all, same)

-- which texts stay once there is a viewer of a new menu and of that main text
abbrev pub staying : ℕ → Option ℕ → List (ℕ × Viewer) → ℕ → Bool
staying main taken viewers n = (n == 0) || ((main == n) || by_others taken viewers n)

module _ (d : Desktop) (menu : Text ℕ) (main org : ℕ) (taken : Option ℕ)
    (apart : times_meant (new_id d) taken ≡ 0) where
  abbrev test : ℕ → Bool
  test n = (n == 0) || by_others taken (new_viewers d main org) n

  test_is : (n : ℕ) → test n ≡ (n == 0) || (((new_number d == n) || (main == n)) || by_others taken d.viewers n)
  test_is n = ap (λ b. (n == 0) || b)
      (by_one_more n (new_id d) (new_viewer d main org) d.viewers taken apart (unused_none d.viewers))

  menu_stays : test (new_number d) ≡ true
  menu_stays = test_is (new_number d) ∙ or_true (new_number d == 0) _
      (λ k. (eq-eqb (new_number d) (new_number d) refl k || (main == new_number d))
      || by_others taken d.viewers (new_number d))

  lengths_left : lengths (filter (λ e. test e.0) (with_new d.texts menu))
      ≡ lengths (filter (λ e. staying main taken d.viewers e.0) d.texts) + length menu
  lengths_left = lengths_new d.texts menu test (staying main taken d.viewers) menu_stays
      (λ k other. test_is k ∙ (λ i. (k == 0) || ((other i || (main == k)) || by_others taken d.viewers k)))

  held_one_more : (columns : Columns) → characters_held (without_unshown (placed_anew (with_viewer d menu main org) columns taken))
      ≡ lengths (filter (λ e. staying main taken d.viewers e.0) d.texts) + lengths d.files + length d.copied
      + length d.deleted + length menu
  held_one_more columns =
      let all = held_anew (with_viewer d menu main org) columns taken in
      let left = lengths_left in
      omega (arith, all, left)

-- whether an opening leaves the new viewer where another one goes
abbrev pub IsApart : {T : Type 0} → DesktopOf T → ℕ × ℕ → Type 0
IsApart d cell = times_meant (new_id d) (replaced_at d.columns cell.0 cell.1) ≡ 0

module _ (d : Desktop) (menu : Text ℕ) (cell : ℕ × ℕ) (apart : IsApart d cell) where
  abbrev gone : Option ℕ
  gone = replaced_at d.columns cell.0 cell.1

  -- on a text that stays anyway
  pub held_opening_on : (main org : ℕ)
      → ((k : ℕ) → list_any (λ j. j == k) (keys_of d.texts) ≡ true
      → staying main gone d.viewers k ≡ (k == 0) || by_others gone d.viewers k)
      → characters_held (without_unshown (opening_on d menu main org cell))
      ≡ characters_held (without_unshown (without_viewer d gone)) + length menu
  held_opening_on main org stays =
      let is = ap (λ (x : Desktop). characters_held (without_unshown x)) (opening_on_is d menu main org cell) in
      let all = held_one_more d menu main org gone apart (after_open d.columns (new_id d) cell.0 cell.1) in
      let before = held_without d gone in
      let same = ap lengths (filter_alike (staying main gone d.viewers) (λ k. (k == 0) || by_others gone d.viewers k)
      d.texts stays) in
      omega (arith, is, all, before, same)

  -- on a new text
  pub held_opening : (main : Text ℕ) → characters_held (without_unshown (after_opening d menu main cell))
      ≡ characters_held (without_unshown (without_viewer d gone)) + length main + length menu
  held_opening main =
      let n = new_number d in
      let x = text_more d main in
      let is = ap (λ (y : Desktop). characters_held (without_unshown y))
      (opening_is d menu main cell ∙ opening_on_is x menu n 0 cell) in
      let all = held_one_more x menu n 0 gone apart (after_open d.columns (new_id d) cell.0 cell.1) in
      let first = lengths_new d.texts main (staying n gone d.viewers) (λ k. (k == 0) || by_others gone d.viewers k)
      (or_true (n == 0) _ (λ k. eq-eqb n n refl k || by_others gone d.viewers n))
      (λ k other i. (k == 0) || (other i || by_others gone d.viewers k)) in
      let before = held_without d gone in
      omega (arith, is, all, first, before)

module _ (d : Desktop) (menu : Text ℕ) (main org : ℕ) (k : Track) where
  held_covered : characters_held (without_unshown (opening_over d menu main org k))
      ≡ characters_held (without_unshown (placed_anew (with_viewer d menu main org) (columns_over d k) None))
  unfolding characters_held without_unshown opening_over covered_by
  held_covered = refl

  -- in a new track nobody's place is taken
  pub held_opening_over : ((n : ℕ) → list_any (λ j. j == n) (keys_of d.texts) ≡ true
      → staying main None d.viewers n ≡ (n == 0) || by_others None d.viewers n)
      → characters_held (without_unshown (opening_over d menu main org k)) ≡ characters_held (without_unshown d) + length menu
  held_opening_over stays =
      let all = held_one_more d menu main org None refl (columns_over d k) in
      let before = held_without d None in
      let same = ap lengths (filter_alike (staying main None d.viewers) (λ n. (n == 0) || by_others None d.viewers n)
      d.texts stays) in
      omega (arith, held_covered, all, before, same)
