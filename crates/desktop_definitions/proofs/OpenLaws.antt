-- Laws of what opens: numbers that are free, how many are taken, and that a desktop with a new viewer stays shaped.
use Rattle.std.specs.Prelude.{◌≡◌, ℕ, ◌+◌, ◌<◌, ◌≤◌, ◌==◌, ◌||◌, not, Bool, true, false, cond}
use Rattle.std.specs.Prelude.{IsSome, is_some}
use Rattle.std.specs.Prelude.{List, [], ◌∷◌, length, Option, Some, None}
use Rattle.std.specs.Prelude.{slice_index_or}
use Rattle.std.specs.Option.{unwrap_or}
use Rattle.std.specs.List.{list_any, range_with_len}
use Rattle.std.specs.List.Sorted.{IsStrictlySortedBy}
use Rattle.std.specs.Map.{lookup, keys_of}
use Rattle.std.specs.Ordering.{nat_cmp, match_ordering, is_eq}
use Rattle.std.specs.declared.cmp.Ordering.TheVariants.{Less, Equal, Greater}
use Rattle.std.specs.BTreeMap.{is_at, insert_entry}
use Rattle.std.proofs.Common.{refl, sym, ap, subst, ◌∙◌, arith, ⊎_elim}
use Rattle.std.proofs.Math.Dec.{eqb}
use Rattle.std.proofs.lemmas.Bool.{cases_lt}
use Rattle.std.proofs.lemmas.Bool.Decides.{nat_tests}
use Rattle.std.proofs.lemmas.List.FromFn.{length-range_with_len, get_or-range_with_len}
use Rattle.std.proofs.lemmas.List.Sums.{prefix_len-le-length, passes_at_first, fails_before_first}
use Rattle.std.proofs.lemmas.Map.Made.{is_some-lookup}
use Rattle.std.proofs.lemmas.Map.Steps.{le-length_from_below}
use Rattle.desktop_definitions.specs.declared.viewer.Viewer.{Viewer}
use Rattle.desktop_definitions.specs.declared.viewer.Caret.{Caret}
use Rattle.desktop_definitions.specs.declared.viewer.Selection.{Selection}
use Rattle.desktop_definitions.specs.declared.viewer.ClosedViewer.{ClosedViewer}
use Rattle.viewer_tracks.specs.Columns.{Columns, IsPlaced, IsOnTop}
use Rattle.desktop_definitions.specs.Tables.{Texts, text_numbered}
use Rattle.desktop_definitions.specs.Viewers.{viewer_in, text_in, main_length, viewer_or_none, bare_viewer}
use Rattle.desktop_definitions.specs.Opening.{least_unused}
use Rattle.desktop_definitions.specs.Sound.{IsViewer, AreViewers, ArePlaces, AreMarks, times_there}
use Rattle.desktop_definitions.proofs.PlaceLaws.{any_at, at_itself, at_other, by_number, on_top_placed}

passed : (b : Bool) → not b ≡ true → b ≡ false
passed true is = absurd cc
passed false is = refl

failed : (b : Bool) → not b ≡ false → b ≡ true
failed true is = refl
failed false is = absurd cc

-- ---- the least unused number

flipped : (a b : ℕ) → (a == b) ≡ eqb b a
flipped a b = grind (arith, nat_tests)

any_flipped : (n : ℕ) (ks : List ℕ) → list_any (λ k. k == n) ks ≡ list_any (eqb n) ks
any_flipped n [] = refl
any_flipped n (k ∷ ks) = λ i. flipped k n i || any_flipped n ks i

module _ (used : List ℕ) where
  abbrev free : ℕ → Bool
  free n = not (list_any (λ k. k == n) used)

  abbrev below : List ℕ
  below = range_with_len 0 (length used)

  pub unused_low : least_unused used ≤ length used
  unused_low =
      let low = prefix_len-le-length (λ n. not (free n)) below in
      let long = length-range_with_len 0 (length used) in
      omega (arith, low, long)

  stands_at : (q : ℕ) → q < length used → slice_index_or below q 0 ≡ q
  stands_at q low = get_or-range_with_len 0 (length used) q 0 low ∙ omega arith

  used_before : (q : ℕ) → q < least_unused used → list_any (eqb q) used ≡ true
  used_before q low =
      let fits : q < length used = omega (arith, low, unused_low) in
      sym (any_flipped q used)
      ∙ failed _ (subst (λ n. free n ≡ false) (stands_at q fits) (fails_before_first free below q 0 low))

  used_all : length used ≤ least_unused used → list_any (λ k. k == least_unused used) used ≡ true → ⊥
  used_all past last =
      let many = le-length_from_below used (least_unused used + 1) (λ q low.
      ⊎_elim (λ less. used_before q less)
      (λ more. let same : least_unused used ≡ q = omega (arith, low, more) in
      subst (λ n. list_any (eqb n) used ≡ true) same (sym (any_flipped (least_unused used) used) ∙ last))
      (cases_lt q (least_unused used))) in
      absurd (omega (arith, many, past))

  pub unused_missing : list_any (λ k. k == least_unused used) used ≡ false
  unused_missing = ⊎_elim
      (λ low.
      let long = length-range_with_len 0 (length used) in
      let inside : least_unused used < length below = omega (arith, low, long) in
      passed _ (subst (λ n. free n ≡ true) (stands_at (least_unused used) low) (passes_at_first free below 0 inside)))
      (λ past. by_case (list_any (λ k. k == least_unused used) used) refl past)
      (cases_lt (least_unused used) (length used))
    where
      by_case : (b : Bool) → list_any (λ k. k == least_unused used) used ≡ b → length used ≤ least_unused used
          → list_any (λ k. k == least_unused used) used ≡ false
      by_case true is past = absurd (used_all past is)
      by_case false is past = is

none_of : {A : Type 0} (o : Option A) → is_some o ≡ false → o ≡ None
none_of None not = refl
none_of (Some a) not = absurd cc

pub unused_none : {X : Type 0} (es : List (ℕ × X)) → lookup (is_at (nat_cmp (least_unused (keys_of es)))) es ≡ None
unused_none es =
    let n = least_unused (keys_of es) in
    none_of _ (is_some-lookup (is_at (nat_cmp n)) es ∙ any_at n (keys_of es) ∙ unused_missing (keys_of es))

-- ---- an entry of a number that is new

module _ {X : Type 0} where
  abbrev look : List (ℕ × X) → ℕ → Option X
  look es k = lookup (is_at (nat_cmp k)) es

  pub put_itself : (es : List (ℕ × X)) (n : ℕ) (x : X) → look (insert_entry nat_cmp es n x) n ≡ Some x
  put_itself [] n x = rw (at_itself n) refl
  put_itself (e ∷ es) n x = (elim (nat_cmp n e.0) as (λ o. nat_cmp n e.0 ≡ o
      → look (match_ordering o ((n, x) ∷ e ∷ es) ((e.0, x) ∷ es) (e ∷ insert_entry nat_cmp es n x)) n ≡ Some x) [
        | Less ↦ λ is. rw (at_itself n) refl
        | Equal ↦ λ is. ap (λ o. (let y : Option X = cond (is_eq o) (Some x) (look es n) in y)) is
        | Greater ↦ λ is. ap (λ o. (let y : Option X = cond (is_eq o) (Some e.1)
            (look (insert_entry nat_cmp es n x) n) in y)) is ∙ put_itself es n x
      ]) refl

  pub put_other : (es : List (ℕ × X)) (n k : ℕ) (x : X) → ¬ (k ≡ n) → look es n ≡ None
      → look (insert_entry nat_cmp es n x) k ≡ look es k
  put_other [] n k x apart none = rw (at_other k n apart) refl
  put_other (e ∷ es) n k x apart none = (elim (nat_cmp n e.0) as
      (λ o. (let y : Option X = cond (is_eq o) (Some e.1) (look es n) in y) ≡ None
      → look (match_ordering o ((n, x) ∷ e ∷ es) ((e.0, x) ∷ es) (e ∷ insert_entry nat_cmp es n x)) k
      ≡ look (e ∷ es) k) [
        | Less ↦ λ none. rw (at_other k n apart) refl
        | Equal ↦ λ none. absurd cc
        | Greater ↦ λ none.
            ap (λ (o : Option X). (let y : Option X = cond (is_at (nat_cmp k) e.0) (Some e.1) o in y))
            (put_other es n k x apart none)
      ]) none

  -- what is found isn't of a number that is missing
  pub apart_from : (es : List (ℕ × X)) (n k : ℕ) (x : X) → look es n ≡ None → look es k ≡ Some x → ¬ (k ≡ n)
  apart_from es n k x none found same =
      let here : look es k ≡ None = subst (λ m. look es m ≡ None) (sym same) none in absurd cc

-- ---- a text more

is_there : {A : Type 0} (o : Option A) → IsSome o → (a : A) × (o ≡ Some a)
is_there None some = absurd cc
is_there (Some a) some = (a, refl)

-- marks stand where the main text of each viewer in a track that is shown is as long as before
pub same_marks : (columns : Columns) (long other : ℕ → ℕ) (caret : Option Caret) (selections : List Selection)
    → ((w : ℕ) → IsOnTop w columns → other w ≡ long w) → AreMarks columns long caret selections
    → AreMarks columns other caret selections
same_marks columns long other caret selections same marks = record {
  caret_stands = λ c here.
      let stands = marks.caret_stands c here in
      record {
        placed = stands.placed;
        within = subst (λ n. c.position ≤ n) (sym (same c.viewer stands.placed)) stands.within;
      };
  all_stand = λ i s low.
      let stands = marks.all_stand i s low in
      record {
        placed = stands.placed;
        some = stands.some;
        within = subst (λ n. (slice_index_or selections i s).end ≤ n) (sym (same _ stands.placed)) stands.within;
      };
  one_each = marks.one_each;
}

-- Texts, and the same with one of a number that none of them has.
pub record IsTextMore {X : Type 0} (texts new : Texts (List X)) (n : ℕ) : Type 0 where
  pub none : text_numbered texts n ≡ None
  pub others : (k : ℕ) → ¬ (k ≡ n) → text_numbered new k ≡ text_numbered texts k
  pub numbers : IsStrictlySortedBy nat_cmp (keys_of new)

module _ {X : Type 0} (texts new : Texts (List X)) (n : ℕ) (more : IsTextMore texts new n) where
  pub not_new : (k : ℕ) → IsSome (text_numbered texts k) → ¬ (k ≡ n)
  not_new k some = let found = is_there (text_numbered texts k) some in apart_from texts n k found.0 more.none found.1

  pub text_stays : (k : ℕ) → IsSome (text_numbered texts k) → text_numbered new k ≡ text_numbered texts k
  text_stays k some = more.others k (not_new k some)

  pub some_stays : (k : ℕ) → IsSome (text_numbered texts k) → IsSome (text_numbered new k)
  some_stays k some = subst (λ (o : Option (List X)). IsSome o) (sym (text_stays k some)) some

  pub length_stays : (k : ℕ) → IsSome (text_numbered texts k) → length (text_in new k) ≡ length (text_in texts k)
  length_stays k some = ap (λ (o : Option (List X)). length (unwrap_or o [])) (text_stays k some)

  module _ (viewers : List (ℕ × Viewer)) (are : AreViewers texts viewers) where
    pub text_viewers : AreViewers new viewers
    text_viewers = record {
      log = some_stays 0 are.log;
      numbers = more.numbers;
      ids = are.ids;
      each = λ v viewer found.
          let old = are.each v viewer found in
          record {
            menu = some_stays viewer.menu old.menu;
            main = some_stays viewer.main old.main;
            org = subst (λ n. viewer.org ≤ n) (sym (length_stays viewer.main old.main)) old.org;
            not_log = old.not_log;
            no_main = old.no_main;
            own = old.own;
          };
    }

    pub text_long : (w : ℕ) → IsSome (viewer_in viewers w) → main_length new viewers w ≡ main_length texts viewers w
    text_long w some =
        let found = is_there (viewer_in viewers w) some in
        length_stays (viewer_or_none viewers w).main
        (subst (λ (o : Option Viewer). IsSome (text_numbered texts (unwrap_or o bare_viewer).main)) (sym found.1)
        (are.each w found.0 found.1).main)

-- ---- a viewer more

-- Viewers, and the same with one of an id that none of them has: it shows texts that are there, and its menu is
-- nobody else's.
pub record IsViewerMore {X : Type 0} (texts : Texts (List X)) (viewers new : List (ℕ × Viewer)) (v : ℕ)
    (viewer : Viewer) : Type 0 where
  pub none : viewer_in viewers v ≡ None
  pub there : viewer_in new v ≡ Some viewer
  pub others : (w : ℕ) → ¬ (w ≡ v) → viewer_in new w ≡ viewer_in viewers w
  pub ids : IsStrictlySortedBy nat_cmp (keys_of new)
  pub menu : IsSome (text_numbered texts viewer.menu)
  pub main : IsSome (text_numbered texts viewer.main)
  pub org : viewer.org ≤ length (text_in texts viewer.main)
  pub not_log : ¬ (viewer.menu ≡ 0)
  pub apart : ¬ (viewer.main ≡ viewer.menu)
  pub main_no_menu : (w : ℕ) (other : Viewer) → viewer_in viewers w ≡ Some other → ¬ (viewer.main ≡ other.menu)
  pub menu_no_main : (w : ℕ) (other : Viewer) → viewer_in viewers w ≡ Some other → ¬ (other.main ≡ viewer.menu)
  pub menu_own : (w : ℕ) (other : Viewer) → viewer_in viewers w ≡ Some other → ¬ (other.menu ≡ viewer.menu)

module _ {X : Type 0} (texts : Texts (List X)) (viewers new : List (ℕ × Viewer)) (v : ℕ) (viewer : Viewer)
    (more : IsViewerMore texts viewers new v viewer) (are : AreViewers texts viewers) where
  old_or_new : (w : ℕ) (x : Viewer) (P : Type 0) → viewer_in new w ≡ Some x → (w ≡ v → viewer ≡ x → P)
      → (viewer_in viewers w ≡ Some x → P) → P
  old_or_new w x P found is_new is_old = by_number w v P
      (λ same. is_new same (let here : viewer_in new v ≡ Some x
      = subst (λ (n : ℕ). viewer_in new n ≡ Some x) same found in
      let both : Some viewer ≡ Some x = sym more.there ∙ here in cc))
      (λ other. is_old (sym (more.others w other) ∙ found))

  old_viewer : (w : ℕ) (x : Viewer) → viewer_in viewers w ≡ Some x → IsViewer texts new w x
  old_viewer w x found =
      let old = are.each w x found in
      record {
        menu = old.menu;
        main = old.main;
        org = old.org;
        not_log = old.not_log;
        no_main = λ u other here is. old_or_new u other ⊥ here
            (λ same shown. more.main_no_menu w x found (ap (λ (y : Viewer). y.main) shown ∙ is))
            (λ before. old.no_main u other before is);
        own = λ u other here is. old_or_new u other (u ≡ w) here
            (λ same shown. absurd (more.menu_own w x found (sym (ap (λ (y : Viewer). y.menu) shown ∙ is))))
            (λ before. old.own u other before is);
      }

  new_viewer : IsViewer texts new v viewer
  new_viewer = record {
    menu = more.menu;
    main = more.main;
    org = more.org;
    not_log = more.not_log;
    no_main = λ u other here is. old_or_new u other ⊥ here
        (λ same shown. more.apart (ap (λ (y : Viewer). y.main) shown ∙ is))
        (λ before. more.menu_no_main u other before is);
    own = λ u other here is. old_or_new u other (u ≡ v) here
        (λ same shown. same)
        (λ before. absurd (more.menu_own u other before is));
  }

  pub viewer_viewers : AreViewers texts new
  viewer_viewers = record {
    log = are.log;
    numbers = are.numbers;
    ids = more.ids;
    each = λ w x found. old_or_new w x (IsViewer texts new w x) found
        (λ same shown. subst (λ (u : ℕ). IsViewer texts new u x) (sym same)
        (subst (λ (y : Viewer). IsViewer texts new v y) shown new_viewer))
        (λ before. old_viewer w x before);
  }

  pub viewer_long : (w : ℕ) → IsSome (viewer_in viewers w) → main_length texts new w ≡ main_length texts viewers w
  viewer_long w some =
      let found = is_there (viewer_in viewers w) some in
      ap (λ (o : Option Viewer). length (text_in texts (unwrap_or o bare_viewer).main))
      (more.others w (apart_from viewers v w found.0 more.none found.1))

-- ---- who stands in a track has an entry

some_if : (there : ℕ) (found : Bool) → 0 < there → there ≡ cond found 1 0 → found ≡ true
some_if there true some is = refl
some_if there false some is = absurd (omega (arith, some, is))

pub placed_known : (viewers : List (ℕ × Viewer)) (columns : Columns)
    (closed : Option ClosedViewer) (w : ℕ)
    → ArePlaces viewers columns closed → IsPlaced w columns → IsSome (viewer_in viewers w)
placed_known viewers columns closed w are placed =
    let once = are.once w in
    some_if (times_there columns closed w) _ (omega (arith, placed)) once

pub on_top_known : (viewers : List (ℕ × Viewer)) (columns : Columns) (closed : Option ClosedViewer) (w : ℕ)
    → ArePlaces viewers columns closed → IsOnTop w columns → IsSome (viewer_in viewers w)
on_top_known viewers columns closed w are top =
    placed_known viewers columns closed w are (on_top_placed columns w top)
