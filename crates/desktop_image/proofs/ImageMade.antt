-- The desktop that is drafted of parts that fit and make one holds together, and has these parts.
use Rattle.std.proofs.Common.{◌≡◌, ℕ, ◌+◌, ◌-◌, ◌<◌, ◌≤◌, ◌∙◌, ◌==◌, ◌||◌, not, Bool, true, false, cond, length}
use Rattle.std.proofs.Common.{◌&&◌, List, [], ◌∷◌, refl, sym, ap, subst, arith, Option, Some, None}
use Rattle.std.proofs.lemmas.List.Elements.{All-nil, All-cons, All-tail}
use Rattle.std.specs.Prelude.{All, slice_index, IsTrue, is_some, IfSome, nat_le, option_map, reverse, if◌then◌else◌}
use Rattle.std.specs.Option.{ForSome}
use Rattle.std.specs.List.{list_all}
use Rattle.std.specs.List.Sorted.{IsStrictlySortedBy}
use Rattle.std.specs.Map.{lookup, keys_of, values_of}
use Rattle.std.specs.Ordering.{nat_cmp}
use Rattle.std.specs.BTreeMap.{is_at}
use Rattle.std.proofs.lemmas.Bool.{and_parts, eqb-true, eqb-false, eq-eqb, leb-true, ltb-true, ne_eqb}
use Rattle.std.proofs.lemmas.List.{length-reverse, reverse-reverse}
use Rattle.std.proofs.lemmas.List.Sums.{AllPass-from_list_all}
use Rattle.std.proofs.lemmas.Map.Made.{keys_of-map_values}
use Rattle.piece_ring.specs.declared.piece.Piece.{Piece}
use Rattle.piece_ring.specs.Flat.{flat}
use Rattle.piece_ring.specs.Text.{Text}
use Rattle.viewer_tracks.specs.declared.display.TheConstants.{ROWS, COLUMNS, DEPTH}
use Rattle.viewer_tracks.specs.Viewers.{times_in}
use Rattle.viewer_tracks.specs.Columns.{Columns, IsStack, IsOnTop, times_meant, times_placed}
use Rattle.desktop_definitions.specs.declared.viewer.Viewer.{Viewer}
use Rattle.desktop_definitions.specs.declared.viewer.Caret.{Caret}
use Rattle.desktop_definitions.specs.declared.viewer.Selection.{Selection}
use Rattle.desktop_definitions.specs.declared.viewer.ClosedViewer.{ClosedViewer}
use Rattle.desktop_definitions.specs.Limits.{most_written, most_held}
use Rattle.event_bytes.specs.Bytes.{is_name}
use Rattle.desktop_definitions.specs.Tables.{Texts, text_numbered, name_cmp}
use Rattle.desktop_definitions.specs.Desktop.{characters_held}
use Rattle.desktop_definitions.specs.Viewers.{viewer_in, viewer_or_none, main_length}
use Rattle.desktop_definitions.specs.Opening.{is_shown}
use Rattle.desktop_definitions.specs.Seen.{seen, seen_text, seen_table}
use Rattle.desktop_definitions.specs.Sound.{IsViewer, AreViewers, ArePlaces, IsClosedPlace, IsCaretPlaced, IsSelection}
use Rattle.desktop_definitions.specs.Sound.{AreMarks, AreFiles, HasLooks, IsShaped, IsSound, IsWithin}
use Rattle.desktop_definitions.specs.Looks.{AreLooks}
use Rattle.desktop_definitions.proofs.TableLaws.{length_seen, length_seen_text, lengths_seen}
use Rattle.desktop_definitions.proofs.TextLaws.{there_seen, long_seen}
use Rattle.desktop_definitions.proofs.PlaceLaws.{at_same, at_is}
use Rattle.image_format.specs.Image.{Image, image_of, IsSpellable}
use Rattle.image_format.specs.Fitting.{FitsImage, FitsStack, FitsClosed, FitsCell, totals, length_of_pieces}
use Rattle.desktop_image.specs.Images.{is_desktop, IsDesktopOf, drafted, Levels, times_tracked, are_known, is_on_top}
use Rattle.desktop_image.specs.Images.{viewers_of, first_caret, selections_of}
use Rattle.desktop_image.specs.Images.{leaves_menu, is_framed, are_texts, has_id, is_closed_known, stands_once}
use Rattle.desktop_image.specs.Images.{are_placed, highest, main_size, is_caret_within, is_selection, is_pictured}
use Rattle.desktop_image.proofs.Stacks.{times_reversed, not_in_tracks}
use Rattle.desktop_image.proofs.ImageFits.{stack_fits, few_levels}
use Rattle.desktop_image.proofs.ImageFits.{texts_fit, files_fit, viewers_fit, pieces_fit, total_fits, AreFit}
use Rattle.desktop_image.proofs.ImageFits.{AreTextsFit, AreFilesFit, AreViewersFit, length_flat, kept_totals, seen_looks}
use Rattle.desktop_image.proofs.ImageMarks.{one_in_each, pictures_are}

-- ---- what a viewer that is found passes

pub found_passes : {X : Type 0} (test : ℕ × X → Bool) (es : List (ℕ × X)) (v : ℕ) (x : X)
    → list_all test es ≡ true → lookup (is_at (nat_cmp v)) es ≡ Some x → test (v, x) ≡ true
found_passes test [] v x all found = absurd cc
found_passes {X} test (e ∷ es) v x all found =
    let parts = and_parts (test e) (list_all test es) all in
    (elim (is_at (nat_cmp v) e.0) as (λ b. is_at (nat_cmp v) e.0 ≡ b
    → (let o : Option X = cond b (Some e.1) (lookup (is_at (nat_cmp v)) es) in o) ≡ Some x → test (v, x) ≡ true) [
      | true ↦ λ here found.
          let same = at_same v e.0 here in
          let value : e.1 ≡ x = cc found in
          (λ k. test (same k, sym value k)) ∙ parts.0
      | false ↦ λ other found. found_passes test es v x parts.1 found
    ]) refl found

-- an id is one of a viewer that is found
pub id_is : (viewers : List (ℕ × Viewer)) (v : ℕ) → has_id viewers v ≡ is_some (viewer_in viewers v)
id_is [] v = refl
id_is (e ∷ es) v =
    ap (λ b. (e.0 == v) || b) (id_is es v)
    ∙ (elim (is_at (nat_cmp v) e.0) as (λ b. is_at (nat_cmp v) e.0 ≡ b → (e.0 == v) || is_some (viewer_in es v)
    ≡ is_some (let o : Option Viewer = cond b (Some e.1) (viewer_in es v) in o)) [
      | true ↦ λ here. ap (λ b. b || is_some (viewer_in es v)) (sym (at_is v e.0) ∙ here)
      | false ↦ λ other. ap (λ b. b || is_some (viewer_in es v)) (sym (at_is v e.0) ∙ other)
    ]) refl

pub for_some : {A : Type 0} (P Q : A → Type 0) (o : Option A) → ((x : A) → P x → Q x) → IfSome o P → ForSome o Q
for_some P Q None step holds = λ x is. absurd cc
for_some P Q (Some y) step holds = λ x is. subst Q (cc is) (step y holds)

-- ---- the parts of an image that fit

module _ (version written : ℕ) (i : Image) (fits : FitsImage version written i) where
  user_fits : FitsStack version i.user
  unfolding FitsImage
  user_fits = fits.1.1.1.1.1.1.1.1.0

  system_fits : FitsStack version i.system
  unfolding FitsImage
  system_fits = fits.1.1.1.1.1.1.1.1.1.0

  pub user_few : length i.user ≤ DEPTH
  user_few = few_levels version i.user user_fits

  pub system_few : length i.system ≤ DEPTH
  system_few = few_levels version i.system system_fits

  pub user_stack : IsStack (reverse i.user)
  user_stack = stack_fits version i.user user_fits

  pub system_stack : IsStack (reverse i.system)
  system_stack = stack_fits version i.system system_fits

  texts_are : AreTextsFit written 0 most_held i.texts
  unfolding FitsImage
  texts_are = texts_fit written 0 most_held i.texts fits.1.1.1.0.1

  files_are : AreFilesFit written None (most_held - totals i.texts) i.files
  unfolding FitsImage
  files_are = files_fit written None (most_held - totals i.texts) i.files fits.1.1.1.1.0.1

  copied_is : AreFit written i.copied
  unfolding FitsImage
  copied_is = pieces_fit written (most_held - totals i.texts - totals i.files) i.copied fits.1.1.1.1.1.0.1

  deleted_is : AreFit written i.deleted
  unfolding FitsImage
  deleted_is = pieces_fit written (most_held - totals i.texts - totals i.files - length_of_pieces i.copied) i.deleted
      fits.1.1.1.1.1.1.0.1

  viewers_are : AreViewersFit version 0 i.viewers
  unfolding FitsImage
  viewers_are = viewers_fit version 0 i.viewers fits.1.1.1.1.1.1.1.0.1.1

  all_held : totals i.texts + totals i.files + length_of_pieces i.copied + length_of_pieces i.deleted ≤ most_held
  unfolding FitsImage
  all_held =
      let texts = texts_are.pieces.fits in
      let files = files_are.pieces.fits in
      let copied = total_fits written (most_held - totals i.texts - totals i.files) i.copied fits.1.1.1.1.1.0.1 in
      let deleted = total_fits written (most_held - totals i.texts - totals i.files - length_of_pieces i.copied) i.deleted
      fits.1.1.1.1.1.1.0.1 in
      omega (arith, texts, files, copied, deleted)

  pub spellable : IsSpellable version (drafted written i)
  spellable = record {
    tables = record {
      texts = λ k d low. (texts_are.pieces.each k d low).some;
      files = λ k d low. (files_are.pieces.each k d low).some;
      copied = copied_is.some;
      deleted = deleted_is.some;
      numbers = texts_are.words;
    };
    ids = viewers_are.ids;
    user = (let same = length-reverse i.user in let few = user_fits.1.0 in omega (arith, same, few));
    system = (let same = length-reverse i.system in let few = system_fits.1.0 in omega (arith, same, few));
  }

  drafted_within : IsWithin written (drafted written i)
  drafted_within = record {
    texts = λ k d low. (texts_are.pieces.each k d low).within;
    files = λ k d low. (files_are.pieces.each k d low).within;
    copied = copied_is.within;
    deleted = deleted_is.within;
  }

  module _ (characters : List ℕ) where
    drafted_held : characters_held (seen characters (drafted written i)) ≤ most_held
    unfolding characters_held seen
    drafted_held =
        let all = all_held in
        let texts = lengths_seen characters i.texts ∙ kept_totals i.texts in
        let files = lengths_seen characters i.files ∙ kept_totals i.files in
        let copied = length_seen_text characters i.copied ∙ length_flat i.copied in
        let deleted = length_seen_text characters i.deleted ∙ length_flat i.deleted in
        omega (arith, all, texts, files, copied, deleted)

    seen_all : {K : Type 0} (table : List (K × List Piece)) → All (AreFit written) (values_of table)
        → All AreLooks (values_of (seen_table characters table))
    seen_all [] each = All-nil {X = Text ℕ} AreLooks
    seen_all (e ∷ es) each =
        All-cons {X = Text ℕ} AreLooks (seen_text characters e.1) (values_of (seen_table characters es))
        (seen_looks (λ n. slice_index characters n) (flat e.1) (each 0 e.1 (omega arith)).looks)
        (seen_all es (All-tail (AreFit written) e.1 (values_of es) each))

    drafted_looks : HasLooks (seen characters (drafted written i))
    unfolding seen FitsImage
    drafted_looks = record {
      look = fits.0;
      texts = seen_all i.texts texts_are.pieces.each;
      files = seen_all i.files files_are.pieces.each;
      copied = seen_looks (λ n. slice_index characters n) (flat i.copied) copied_is.looks;
      deleted = seen_looks (λ n. slice_index characters n) (flat i.deleted) deleted_is.looks;
    }

    drafted_files : AreFiles (seen_table characters i.files)
    unfolding FitsImage
    drafted_files =
        let keys = keys_of-map_values (seen_text characters) i.files in
        record {
          names = subst (λ ks. All (λ name. IsTrue (is_name name)) ks) (sym keys) files_are.names;
          rising = subst (λ ks. IsStrictlySortedBy name_cmp ks) (sym keys) files_are.rise.rising;
          few = (let same = length_seen (seen_text characters) i.files in let few = fits.1.1.1.1.0.0 in
              omega (arith, same, few));
        }

-- ---- the tests

three_parts : (p q r rest : Bool) → (p && (q && (r && rest))) ≡ true
    → (p ≡ true) × (q ≡ true) × (r ≡ true) × (rest ≡ true)
three_parts p q r rest is =
    let first = and_parts p _ is in
    let second = and_parts q _ first.1 in
    let third = and_parts r rest second.1 in
    (first.0, second.0, third.0, third.1)

-- What is_desktop tests.
record ArePassed (written : ℕ) (i : Image) : Type 0 where
  low : nat_le written most_written ≡ true
  placed : are_placed i.user i.system i.closed (viewers_of i.viewers) ≡ true
  texts : are_texts i.texts (viewers_of i.viewers) ≡ true
  caret : is_caret_within i.texts (viewers_of i.viewers) i.user i.system (first_caret i.viewers) ≡ true
  selections : list_all (is_selection i.texts (viewers_of i.viewers) i.user i.system) (selections_of i.viewers) ≡ true
  pictured : list_all (is_pictured (first_caret i.viewers) (selections_of i.viewers)) i.viewers ≡ true

passed : (written : ℕ) (i : Image) → is_desktop written i ≡ true → ArePassed written i
unfolding is_desktop
passed written i is =
    let a = three_parts _ _ _ _ is in
    let b = and_parts _ _ a.3 in
    let c = and_parts _ _ b.1 in
    record { low = a.0; placed = a.1; texts = a.2; caret = b.0; selections = c.0; pictured = c.1 }

-- ---- texts

-- What are_texts tests.
record AreTested (texts : Texts (List Piece)) (viewers : List (ℕ × Viewer)) : Type 0 where
  log : is_some (text_numbered texts 0) ≡ true
  framed : list_all (is_framed texts viewers) viewers ≡ true
  used : list_all (is_shown viewers) (keys_of texts) ≡ true

tested : (texts : Texts (List Piece)) (viewers : List (ℕ × Viewer)) → are_texts texts viewers ≡ true
    → AreTested texts viewers
unfolding are_texts
tested texts viewers is =
    let a = and_parts _ _ is in
    let b = and_parts _ _ a.1 in
    record { log = a.0; framed = b.0; used = b.1 }

is_not : (b : Bool) → not b ≡ true → b ≡ false
is_not true is = absurd cc
is_not false is = refl

own_menu : (a b : Bool) → (not a || b) ≡ true → a ≡ true → b ≡ true
own_menu true b is same = is
own_menu false b is same = absurd cc

module _ (characters : List ℕ) (texts : Texts (List Piece)) (viewers : List (ℕ × Viewer)) where
  viewer_holds : (v : ℕ) (viewer : Viewer) → is_framed texts viewers (v, viewer) ≡ true
      → IsViewer (seen_table characters texts) viewers v viewer
  unfolding is_framed
  viewer_holds v viewer is =
      let texts_are = three_parts _ _ _ _ is in
      let menus = and_parts _ _ texts_are.3 in
      let apart : (w : ℕ) (other : Viewer) → viewer_in viewers w ≡ Some other
      → (not (other.main == viewer.menu) ≡ true) × ((not (other.menu == viewer.menu) || (w == v)) ≡ true) =
      λ w other found. and_parts _ _ (found_passes (leaves_menu (v, viewer)) viewers w other menus.1 found) in
      record {
        menu = there_seen characters texts viewer.menu texts_are.0;
        main = there_seen characters texts viewer.main texts_are.1;
        org = (let low = leb-true viewer.org _ texts_are.2 in let same = long_seen characters texts viewer.main in
            omega (arith, low, same));
        not_log = λ log. (let other = eqb-false viewer.menu 0 (is_not _ menus.0) in other log);
        no_main = λ w other found. eqb-false other.main viewer.menu (is_not _ (apart w other found).0);
        own = λ w other found same. eqb-true w v (own_menu (other.menu == viewer.menu) (w == v)
            (apart w other found).1 (eq-eqb other.menu viewer.menu same));
      }

  viewers_hold : AreTested texts viewers → IsStrictlySortedBy nat_cmp (keys_of texts)
      → IsStrictlySortedBy nat_cmp (keys_of viewers) → AreViewers (seen_table characters texts) viewers
  viewers_hold are numbers ids = record {
    log = there_seen characters texts 0 are.log;
    numbers = subst (λ ks. IsStrictlySortedBy nat_cmp ks) (sym (keys_of-map_values (seen_text characters) texts))
        numbers;
    ids = ids;
    each = λ v viewer found. viewer_holds v viewer
        (found_passes (is_framed texts viewers) viewers v viewer are.framed found);
  }

-- ---- places

-- What are_placed tests.
record AreStanding (user system : Levels) (closed : Option ClosedViewer) (viewers : List (ℕ × Viewer)) : Type 0 where
  once : list_all (stands_once user system closed) viewers ≡ true
  of_user : are_known viewers user ≡ true
  of_system : are_known viewers system ≡ true
  of_closed : is_closed_known viewers closed ≡ true

standing : (user system : Levels) (closed : Option ClosedViewer) (viewers : List (ℕ × Viewer))
    → are_placed user system closed viewers ≡ true → AreStanding user system closed viewers
unfolding are_placed
standing user system closed viewers is =
    let a = and_parts _ _ is in
    let b = and_parts _ _ a.1 in
    let c = and_parts _ _ b.1 in
    record { once = a.0; of_user = b.0; of_system = c.0; of_closed = c.1 }

not_closed : (viewers : List (ℕ × Viewer)) (v : ℕ) (closed : Option ClosedViewer) → has_id viewers v ≡ false
    → is_closed_known viewers closed ≡ true → times_meant v (option_map (λ k. k.viewer) closed) ≡ 0
not_closed viewers v None none is = refl
not_closed viewers v (Some k) none is =
    let other : ¬ (k.viewer ≡ v) =
    λ same. (let there : has_id viewers v ≡ true = ap (has_id viewers) (sym same) ∙ is in absurd (cc (there, none))) in
    ap (λ b. (let n : ℕ = cond b 1 0 in n)) (ne_eqb k.viewer v other)

module _ (user system : Levels) (closed : Option ClosedViewer) (viewers : List (ℕ × Viewer))
    (are : AreStanding user system closed viewers) where
  abbrev times : ℕ → ℕ
  times v = times_tracked user system v + times_meant v (option_map (λ k. k.viewer) closed)

  times_by : (v : ℕ) (o : Option Viewer) → viewer_in viewers v ≡ o → times v ≡ (if is_some o then 1 else 0)
  times_by v (Some viewer) found =
      eqb-true (times v) 1 (found_passes (stands_once user system closed) viewers v viewer are.once found)
  times_by v None missing =
      let none : has_id viewers v ≡ false = id_is viewers v ∙ ap is_some missing in
      let in_user = not_in_tracks viewers v user none are.of_user in
      let in_system = not_in_tracks viewers v system none are.of_system in
      let in_closed = not_closed viewers v closed none are.of_closed in
      omega (arith, in_user, in_system, in_closed)

  one_if_small : (b : Bool) → (if b then 1 else 0) ≤ 1
  one_if_small true = omega arith
  one_if_small false = omega arith

  tracked_once : (v : ℕ) → times_tracked user system v ≤ 1
  tracked_once v =
      let all = times_by v (viewer_in viewers v) refl in
      let small = one_if_small (is_some (viewer_in viewers v)) in
      omega (arith, all, small)

  abbrev drafted_columns : Columns
  drafted_columns = record { user = reverse user; system = reverse system }

  placed_is : (v : ℕ) → times_placed v drafted_columns ≡ times_tracked user system v
  placed_is v = let one = times_reversed v user in let other = times_reversed v system in omega (arith, one, other)

  places_hold : (version : ℕ) → IsStack (reverse user) → IsStack (reverse system) → IfSome closed (FitsClosed version)
      → ArePlaces viewers drafted_columns closed
  places_hold version is_user is_system fits = record {
    columns_hold = record {
      user = is_user;
      system = is_system;
      once = λ v. (let same = placed_is v in let one = tracked_once v in omega (arith, same, one));
    };
    once = λ v. (let all = times_by v (viewer_in viewers v) refl in let same = placed_is v in
        omega (arith, all, same));
    closed_place = for_some (FitsClosed version) IsClosedPlace closed
        (λ k fits. record { some = fits.1.0; within = fits.1.1 }) fits;
  }

-- ---- marks

module _ (characters : List ℕ) (texts : Texts (List Piece)) (viewers : List (ℕ × Viewer)) (user system : Levels)
  where
    abbrev columns_of : Columns
    columns_of = record { user = reverse user; system = reverse system }

    on_top : (v : ℕ) → is_on_top user system v ≡ true → IsOnTop v columns_of
    on_top v is = ltb-true 0 (times_in v (highest user) + times_in v (highest system)) is

    caret_holds : (c : Caret) → is_caret_within texts viewers user system (Some c) ≡ true
        → IsCaretPlaced columns_of (main_length (seen_table characters texts) viewers) c
    unfolding is_caret_within
    caret_holds c is =
        let parts = and_parts _ _ is in
        let same = long_seen characters texts (viewer_or_none viewers c.viewer).main in
        let low = leb-true c.position (main_size texts viewers c.viewer) parts.1 in
        record { placed = on_top c.viewer parts.0; within = omega (arith, same, low) }

    selection_holds : (s : Selection) → is_selection texts viewers user system s ≡ true
        → IsSelection columns_of (main_length (seen_table characters texts) viewers) s
    unfolding is_selection
    selection_holds s is =
        let a = and_parts _ _ is in
        let b = and_parts _ _ a.1 in
        let same = long_seen characters texts (viewer_or_none viewers s.viewer).main in
        let low = leb-true s.end (main_size texts viewers s.viewer) b.1 in
        record { placed = on_top s.viewer a.0; some = ltb-true s.beg s.end b.0; within = omega (arith, same, low) }

-- ---- the whole

module _ (written : ℕ) (i : Image) (makes : is_desktop written i ≡ true) where
  tests : ArePassed written i
  tests = passed written i makes

  placed : AreStanding i.user i.system i.closed (viewers_of i.viewers)
  placed = standing i.user i.system i.closed (viewers_of i.viewers) tests.placed

  text_tests : AreTested i.texts (viewers_of i.viewers)
  text_tests = tested i.texts (viewers_of i.viewers) tests.texts

  pub once_tracked : (v : ℕ) → times_tracked i.user i.system v ≤ 1
  once_tracked v = tracked_once i.user i.system i.closed (viewers_of i.viewers) placed v

  marks_hold : (characters : List ℕ) → AreMarks (record { user = reverse i.user; system = reverse i.system })
      (main_length (seen_table characters i.texts) (viewers_of i.viewers)) (first_caret i.viewers)
      (selections_of i.viewers)
  marks_hold characters = record {
    caret_stands = λ c is. caret_holds characters i.texts (viewers_of i.viewers) i.user i.system c
        (ap (is_caret_within i.texts (viewers_of i.viewers) i.user i.system) (sym is) ∙ tests.caret);
    all_stand = λ k s low. selection_holds characters i.texts (viewers_of i.viewers) i.user i.system _
        (AllPass-from_list_all (is_selection i.texts (viewers_of i.viewers) i.user i.system) (selections_of i.viewers)
        tests.selections k s low);
    one_each = λ v. one_in_each (first_caret i.viewers) i.viewers v tests.pictured;
  }

  module _ (version : ℕ) (fits : FitsImage version written i) where
    drafted_shaped : (characters : List ℕ) → IsShaped (seen characters (drafted written i))
    unfolding seen FitsImage
    drafted_shaped characters = record {
      viewers = viewers_hold characters i.texts (viewers_of i.viewers) text_tests
          (texts_are version written i fits).numbers.rising (viewers_are version written i fits).numbers.rising;
      places = places_hold i.user i.system i.closed (viewers_of i.viewers) placed version
          (user_stack version written i fits) (system_stack version written i fits) fits.1.1.1.1.1.1.1.1.1.1;
      marks = marks_hold characters;
      marker = for_some FitsCell (λ m. (m.0 < COLUMNS) × (m.1 < ROWS)) i.marker (λ m is. is) fits.1.1.0;
      files = drafted_files version written i fits characters;
      pattern = fits.1.0;
      looks = drafted_looks version written i fits characters;
    }

    all_shown : (characters : List ℕ)
        → All (λ n. IsTrue (is_shown (viewers_of i.viewers) n)) (keys_of (seen_table characters i.texts))
    unfolding seen
    all_shown characters = subst (λ ks. All (λ n. IsTrue (is_shown (viewers_of i.viewers) n)) ks)
        (sym (keys_of-map_values (seen_text characters) i.texts))
        (AllPass-from_list_all (is_shown (viewers_of i.viewers)) (keys_of i.texts) text_tests.used)

    drafted_sound : (characters : List ℕ) → IsSound (seen characters (drafted written i))
    unfolding seen
    drafted_sound characters = record {
      shaped = drafted_shaped characters;
      shown = all_shown characters;
      written_within = leb-true written most_written tests.low;
      held_within = drafted_held version written i fits characters;
    }

    image_is : image_of (drafted written i) ≡ i
    unfolding image_of
    image_is = λ k. record i {
      user = reverse-reverse i.user k;
      system = reverse-reverse i.system k;
      viewers = pictures_are (first_caret i.viewers) (selections_of i.viewers) i.viewers tests.pictured k;
    }

    pub made : IsDesktopOf written i (drafted written i)
    made = record {
      count = refl;
      whole = record { within = drafted_within version written i fits; sound = drafted_sound };
      image = image_is;
    }
