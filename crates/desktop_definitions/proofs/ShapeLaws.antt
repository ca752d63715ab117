-- Laws of the shape of a desktop: it stays where viewers show the same texts from other positions, and marks are fewer.
use Rattle.std.specs.Prelude.{◌≡◌, ℕ, suc, ◌+◌, ◌≤◌, ◌==◌, nat_lt, not, Bool, true, false, cond, ⊤, List, []}
use Rattle.std.specs.Prelude.{◌∷◌, length, count_by, Option, Some, None, is_some, IsSome}
use Rattle.std.specs.Option.{unwrap_or, ForSome}
use Rattle.std.specs.List.{AllByRecursion}
use Rattle.std.specs.List.Sorted.{IsStrictlySortedBy}
use Rattle.std.specs.Map.{lookup, set_value, keys_of}
use Rattle.std.specs.Ordering.{nat_cmp, is_eq}
use Rattle.std.specs.declared.cmp.Ordering.TheVariants.{Less, Equal, Greater}
use Rattle.std.specs.BTreeMap.{is_at}
use Rattle.std.proofs.Common.{refl, sym, ap, subst, ◌∙◌, arith, inl, inr}
use Rattle.std.proofs.lemmas.Bool.{cases_eq, le-ltb, eq-eqb, ne_eqb}
use Rattle.std.proofs.lemmas.List.Elements.{All-from_recursion, recursion_from_All}
use Rattle.std.proofs.lemmas.List.Sums.{sum_by-cons}
use Rattle.viewer_tracks.specs.Columns.{Columns}
use Rattle.desktop_definitions.specs.declared.viewer.Viewer.{Viewer}
use Rattle.desktop_definitions.specs.declared.viewer.Caret.{Caret}
use Rattle.desktop_definitions.specs.declared.viewer.Selection.{Selection}
use Rattle.desktop_definitions.specs.declared.viewer.ClosedViewer.{ClosedViewer}
use Rattle.desktop_definitions.specs.Tables.{Texts, text_numbered}
use Rattle.desktop_definitions.specs.Viewers.{bare_viewer, viewer_in, viewer_or_none, text_in, caret_outside}
use Rattle.desktop_definitions.specs.Viewers.{selections_outside}
use Rattle.desktop_definitions.specs.Changed.{texts_shown}
use Rattle.desktop_definitions.specs.Sound.{AreViewers, ArePlaces, AreMarks, IsCaretPlaced, IsSelection}
use Rattle.desktop_definitions.specs.DeskWords.{IsMoved, AreMoved}

-- ---- what may become of viewers

-- A viewer shows the same texts, from a position within its main text on; text m has `long m` characters.
pub record IsReorged (long : ℕ → ℕ) (old new : Viewer) : Type 0 where
  pub menu : new.menu ≡ old.menu
  pub main : new.main ≡ old.main
  pub org : new.org ≤ long old.main

-- the same viewers do
abbrev pub AreReorged : (ℕ → ℕ) → List (ℕ × Viewer) → List (ℕ × Viewer) → Type 0
AreReorged long [] [] = ⊤
AreReorged long [] (f ∷ fs) = ⊥
AreReorged long (e ∷ es) [] = ⊥
AreReorged long (e ∷ es) (f ∷ fs) = (f.0 ≡ e.0) × IsReorged long e.1 f.1 × AreReorged long es fs

-- each viewer's position is within its main text
abbrev pub OrgsWithin : (ℕ → ℕ) → List (ℕ × Viewer) → Type 0
OrgsWithin long viewers = AllByRecursion (λ e. e.1.org ≤ long e.1.main) viewers

abbrev pub one_if : Bool → ℕ
one_if b = cond b 1 0

-- ---- found by number

pub at_here : (n : ℕ) → is_at (nat_cmp n) n ≡ true
at_here n = λ k. is_eq (cond (le-ltb n n (omega arith) k) Less (cond (eq-eqb n n refl k) Equal Greater))

pub at_other : (q n : ℕ) → ¬ (q ≡ n) → is_at (nat_cmp q) n ≡ false
at_other q n other = elim (nat_lt q n) as (λ b. is_eq (cond b Less (cond (q == n) Equal Greater)) ≡ false) [
  | true ↦ refl
  | false ↦ ap (λ b. is_eq (cond b Equal Greater)) (ne_eqb q n other)
]

at_same : (q n : ℕ) → is_at (nat_cmp q) n ≡ true → q ≡ n
at_same q n same = elim (cases_eq q n) [
  | inl is ↦ is
  | inr other ↦ (let no = at_other q n other in absurd (cc (same, no)))
]

-- what is found where the text of a number was set: that of another number is as it was
pub set_other : {X : Type 0} (es : List (ℕ × X)) (n q : ℕ) (w : X) → ¬ (q ≡ n)
    → lookup (is_at (nat_cmp q)) (set_value (is_at (nat_cmp n)) es w) ≡ lookup (is_at (nat_cmp q)) es
set_other [] n q w other = refl
set_other (e ∷ es) n q w other =
    (elim (is_at (nat_cmp n) e.0) as (λ b. is_at (nat_cmp n) e.0 ≡ b
    → lookup (is_at (nat_cmp q)) (cond b ((e.0, w) ∷ es) (e ∷ set_value (is_at (nat_cmp n)) es w))
    ≡ lookup (is_at (nat_cmp q)) (e ∷ es)) [
      | true ↦ λ here.
          let no = at_other q e.0 (λ is. other (is ∙ sym (at_same n e.0 here))) in
          ap (λ b. cond b (Some w) (lookup (is_at (nat_cmp q)) es)) no
          ∙ sym (ap (λ b. cond b (Some e.1) (lookup (is_at (nat_cmp q)) es)) no)
      | false ↦ λ there. ap (λ l. cond (is_at (nat_cmp q) e.0) (Some e.1) l) (set_other es n q w other)
    ]) refl

pub set_same : {X : Type 0} (es : List (ℕ × X)) (n : ℕ) (w : X) → IsSome (lookup (is_at (nat_cmp n)) es)
    → lookup (is_at (nat_cmp n)) (set_value (is_at (nat_cmp n)) es w) ≡ Some w
set_same [] n w there = absurd (cc there)
set_same (e ∷ es) n w there =
    (elim (is_at (nat_cmp n) e.0) as (λ b. is_at (nat_cmp n) e.0 ≡ b
    → IsSome (cond b (Some e.1) (lookup (is_at (nat_cmp n)) es))
    → lookup (is_at (nat_cmp n)) (cond b ((e.0, w) ∷ es) (e ∷ set_value (is_at (nat_cmp n)) es w)) ≡ Some w) [
      | true ↦ λ here some. ap (λ b. cond b (Some w) (lookup (is_at (nat_cmp n)) es)) here
      | false ↦ λ none some.
          ap (λ b. cond b (Some e.1) (lookup (is_at (nat_cmp n)) (set_value (is_at (nat_cmp n)) es w))) none
          ∙ set_same es n w some
    ]) refl there

-- whether something is found rests on the keys alone
pub found_by_keys : {K X Y : Type 0} (test : K → Bool) (es : List (K × X)) (fs : List (K × Y)) → keys_of fs ≡ keys_of es
    → is_some (lookup test fs) ≡ is_some (lookup test es)
found_by_keys {K} {X} {Y} test [] [] same = refl
found_by_keys {K} {X} {Y} test [] (f ∷ fs) same = absurd (cc same)
found_by_keys {K} {X} {Y} test (e ∷ es) [] same = absurd (cc same)
found_by_keys {K} {X} {Y} test (e ∷ es) (f ∷ fs) same =
    let first : f.0 ≡ e.0 = cc same in
    let rest : keys_of fs ≡ keys_of es = cc same in
    subst (λ (k : K). is_some (cond (test k) (Some f.1) (lookup test fs)) ≡ is_some (lookup test (e ∷ es))) (sym first)
    (elim (test e.0) as (λ b. is_some (cond b (Some f.1) (lookup test fs))
    ≡ is_some (cond b (Some e.1) (lookup test es))) [
      | true ↦ refl
      | false ↦ found_by_keys test es fs rest
    ])

-- nothing is found below all keys
above_none : {X : Type 0} (q : ℕ) (es : List (ℕ × X)) → AllByRecursion (λ y. nat_cmp q y ≡ Less) (keys_of es)
    → lookup (is_at (nat_cmp q)) es ≡ None
above_none q [] above = refl
above_none q (e ∷ es) above =
    subst (λ o. cond (is_eq o) (Some e.1) (lookup (is_at (nat_cmp q)) es) ≡ None) (sym above.0)
    (above_none q es above.1)

-- what is found after the first entry isn't found there
not_first : {X : Type 0} (k first : ℕ) (x : X) (es : List (ℕ × X))
    → AllByRecursion (λ y. nat_cmp first y ≡ Less) (keys_of es) → lookup (is_at (nat_cmp k)) es ≡ Some x
    → is_at (nat_cmp k) first ≡ false
not_first k first x es above found = at_other k first λ is.
    let none = above_none first es above in
    let here : lookup (is_at (nat_cmp first)) es
    ≡ Some x = subst (λ (q : ℕ). lookup (is_at (nat_cmp q)) es ≡ Some x) is found in
    absurd (cc (none, here))

-- what holds of each value that is found holds of each entry, as no two have one key
pub each_entry : {X : Type 0} (P : X → Type 0) (es : List (ℕ × X)) → IsStrictlySortedBy nat_cmp (keys_of es)
    → ((k : ℕ) (x : X) → lookup (is_at (nat_cmp k)) es ≡ Some x → P x) → AllByRecursion (λ e. P e.1) es
unfolding IsStrictlySortedBy
each_entry P [] rising each = tt
each_entry P (e ∷ es) rising each = (
  each e.0 e.1 (ap (λ b. cond b (Some e.1) (lookup (is_at (nat_cmp e.0)) es)) (at_here e.0)),
  each_entry P es rising.1 (λ k x found. each k x (ap (λ b. cond b (Some e.1) (lookup (is_at (nat_cmp k)) es))
      (not_first k e.0 x es rising.0 found) ∙ found)),
)

-- ---- the same viewers at other positions

-- what is found of an id before and after
abbrev pub AreSame : (ℕ → ℕ) → Option Viewer → Option Viewer → Type 0
AreSame long None None = ⊤
AreSame long None (Some new) = ⊥
AreSame long (Some old) None = ⊥
AreSame long (Some old) (Some new) = IsReorged long old new

module _ (long : ℕ → ℕ) where
  pub reorged_found : (test : ℕ → Bool) (olds news : List (ℕ × Viewer)) → AreReorged long olds news
      → AreSame long (lookup test olds) (lookup test news)
  reorged_found test [] [] same = tt
  reorged_found test [] (f ∷ fs) same = absurd same
  reorged_found test (e ∷ es) [] same = absurd same
  reorged_found test (e ∷ es) (f ∷ fs) same =
      subst (λ (k : ℕ). AreSame long (lookup test (e ∷ es)) (cond (test k) (Some f.1) (lookup test fs))) (sym same.0)
      (elim (test e.0) as (λ b. AreSame long (cond b (Some e.1) (lookup test es))
      (cond b (Some f.1) (lookup test fs))) [
        | true ↦ same.1
        | false ↦ reorged_found test es fs same.2
      ])

  pub reorged_shown : (olds news : List (ℕ × Viewer)) → AreReorged long olds news
      → texts_shown news ≡ texts_shown olds
  reorged_shown [] [] same = refl
  reorged_shown [] (f ∷ fs) same = absurd same
  reorged_shown (e ∷ es) [] same = absurd same
  reorged_shown (e ∷ es) (f ∷ fs) same = λ k.
      (same.0 k, same.1.menu k, same.1.main k) ∷ reorged_shown es fs same.2 k

  pub reorged_keys : (olds news : List (ℕ × Viewer)) → AreReorged long olds news → keys_of news ≡ keys_of olds
  reorged_keys [] [] same = refl
  reorged_keys [] (f ∷ fs) same = absurd same
  reorged_keys (e ∷ es) [] same = absurd same
  reorged_keys (e ∷ es) (f ∷ fs) same = λ k. same.0 k ∷ reorged_keys es fs same.2 k

  -- each viewer stays
  pub reorged_same : (viewers : List (ℕ × Viewer)) → OrgsWithin long viewers → AreReorged long viewers viewers
  reorged_same [] within = tt
  reorged_same (e ∷ es) within =
      (refl, record { menu = refl; main = refl; org = within.0 }, reorged_same es within.1)

  -- one shows its text from elsewhere on
  pub reorged_one : (test : ℕ → Bool) (org : ℕ) (viewers : List (ℕ × Viewer)) → OrgsWithin long viewers
      → org ≤ long (unwrap_or (lookup test viewers) bare_viewer).main
      → AreReorged long viewers
      (set_value test viewers (record (unwrap_or (lookup test viewers) bare_viewer) { org = org }))
  reorged_one test org [] within here = tt
  reorged_one test org (e ∷ es) within here =
      (elim (test e.0) as (λ b. org ≤ long (unwrap_or (cond b (Some e.1) (lookup test es)) bare_viewer).main
      → (let viewer = record (unwrap_or (cond b (Some e.1) (lookup test es)) bare_viewer) { org = org } in
      AreReorged long (e ∷ es) (cond b ((e.0, viewer) ∷ es) (e ∷ set_value test es viewer)))) [
        | true ↦ λ low. (refl, record { menu = refl; main = refl; org = low }, reorged_same es within.1)
        | false ↦ λ low.
            (refl, record { menu = refl; main = refl; org = within.0 }, reorged_one test org es within.1 low)
      ]) here

-- those of one text follow a change of it
pub moved_reorged : (n size : ℕ) (long later : ℕ → ℕ) → ((m : ℕ) → ¬ (m ≡ n) → later m ≡ long m) → later n ≡ size
    → (olds news : List (ℕ × Viewer)) → AreMoved n size olds news → OrgsWithin long olds
    → AreReorged later olds news
moved_reorged n size long later others same [] [] moved within = tt
moved_reorged n size long later others same [] (f ∷ fs) moved within =
    let long = moved.as_long in absurd (omega (arith, long))
moved_reorged n size long later others same (e ∷ es) [] moved within =
    let long = moved.as_long in absurd (omega (arith, long))
moved_reorged n size long later others same (e ∷ es) (f ∷ fs) moved within =
    let first : IsMoved n size e f = moved.each 0 e (omega arith) in
    let rest : AreMoved n size es fs = record {
      as_long = (let long = moved.as_long in omega (arith, long));
      each = λ k d low. moved.each (suc k) d (omega (arith, low));
    } in (
      first.id,
      record {
        menu = first.menu;
        main = first.main;
        org = elim (cases_eq e.1.main n) [
          | inl is ↦ subst (λ m. f.1.org ≤ later m) (sym is) (let low = first.org is in omega (arith, low, same))
          | inr other ↦ (let low = within.0 in let size = others e.1.main other in let stays = first.other other in
              omega (arith, low, size, stays))
        ];
      },
      moved_reorged n size long later others same es fs rest within.1,
    )

-- ---- viewers and places

pub orgs_within : {X : Type 0} (texts : Texts (List X)) (viewers : List (ℕ × Viewer)) → AreViewers texts viewers
    → OrgsWithin (λ m. length (text_in texts m)) viewers
orgs_within texts viewers are =
    each_entry (λ viewer. viewer.org ≤ length (text_in texts viewer.main)) viewers are.ids
    (λ v viewer found. (are.each v viewer found).org)

-- the viewer before
record Was (long : ℕ → ℕ) (found : Option Viewer) (new : Viewer) : Type 0 where
  old : Viewer
  found_is : found ≡ Some old
  same : IsReorged long old new

was : (long : ℕ → ℕ) (old now : Option Viewer) (new : Viewer) → AreSame long old now → now ≡ Some new
    → Was long old new
was long None None new same is = absurd (cc is)
was long None (Some w) new same is = absurd same
was long (Some old) None new same is = absurd same
was long (Some old) (Some w) new same is = record {
  old = old;
  found_is = refl;
  same = subst (IsReorged long old) (cc is) same;
}

module _ {X Y : Type 0} (texts : Texts (List X)) (later : Texts (List Y)) (olds news : List (ℕ × Viewer))
    (numbers : keys_of later ≡ keys_of texts) (same : AreReorged (λ m. length (text_in later m)) olds news) where
  still_there : (n : ℕ) → IsSome (text_numbered texts n) → IsSome (text_numbered later n)
  still_there n there = found_by_keys (is_at (nat_cmp n)) texts later numbers ∙ there

  was_there : (v : ℕ) (viewer : Viewer) → viewer_in news v ≡ Some viewer
      → Was (λ m. length (text_in later m)) (viewer_in olds v) viewer
  was_there v viewer found = was (λ m. length (text_in later m)) (viewer_in olds v) (viewer_in news v) viewer
      (reorged_found (λ m. length (text_in later m)) (is_at (nat_cmp v)) olds news same) found

  pub viewers_stay : AreViewers texts olds → AreViewers later news
  viewers_stay are = record {
    log = still_there 0 are.log;
    numbers = subst (IsStrictlySortedBy nat_cmp) (sym numbers) are.numbers;
    ids = subst (IsStrictlySortedBy nat_cmp)
        (sym (reorged_keys (λ m. length (text_in later m)) olds news same)) are.ids;
    each = λ v viewer found.
        let w = was_there v viewer found in
        let is = are.each v w.old w.found_is in
        record {
          menu = subst (λ m. IsSome (text_numbered later m)) (sym w.same.menu) (still_there w.old.menu is.menu);
          main = subst (λ m. IsSome (text_numbered later m)) (sym w.same.main) (still_there w.old.main is.main);
          org = subst (λ m. viewer.org ≤ length (text_in later m)) (sym w.same.main) w.same.org;
          not_log = λ log. is.not_log (sym w.same.menu ∙ log);
          no_main = λ u other there main.
              let o = was_there u other there in
              is.no_main u o.old o.found_is (sym o.same.main ∙ main ∙ w.same.menu);
          own = λ u other there menu.
              let o = was_there u other there in
              is.own u o.old o.found_is (sym o.same.menu ∙ menu ∙ w.same.menu);
        };
  }

some_same : (long : ℕ → ℕ) (old new : Option Viewer) → AreSame long old new → is_some new ≡ is_some old
some_same long None None same = refl
some_same long None (Some w) same = absurd same
some_same long (Some old) None same = absurd same
some_same long (Some old) (Some new) same = refl

main_same : (long : ℕ → ℕ) (old new : Option Viewer) → AreSame long old new
    → (unwrap_or new bare_viewer).main ≡ (unwrap_or old bare_viewer).main
main_same long None None same = refl
main_same long None (Some w) same = absurd same
main_same long (Some old) None same = absurd same
main_same long (Some old) (Some new) same = same.main

module _ (long : ℕ → ℕ) (olds news : List (ℕ × Viewer)) (same : AreReorged long olds news) where
  pub places_stay : (columns : Columns) (closed : Option ClosedViewer) → ArePlaces olds columns closed
      → ArePlaces news columns closed
  places_stay columns closed are = record {
    columns_hold = are.columns_hold;
    once = λ v. are.once v ∙ sym (ap one_if
        (some_same long (viewer_in olds v) (viewer_in news v) (reorged_found long (is_at (nat_cmp v)) olds news same)));
    closed_place = are.closed_place;
  }

  pub main_stays : (v : ℕ) → (viewer_or_none news v).main ≡ (viewer_or_none olds v).main
  main_stays v = main_same long (viewer_in olds v) (viewer_in news v)
      (reorged_found long (is_at (nat_cmp v)) olds news same)

-- ---- marks

pub count_cons : {X : Type 0} (p : X → Bool) (x : X) (xs : List X) → count_by p (x ∷ xs) ≡ one_if (p x) + count_by p xs
count_cons p x xs = sum_by-cons (λ x. one_if (p x)) x xs

pub fewer_outside : (test : ℕ → Bool) (p : Selection → Bool) (selections : List Selection)
    → count_by p (selections_outside test selections) ≤ count_by p selections
fewer_outside test p [] = omega arith
fewer_outside test p (s ∷ ss) =
    let few = fewer_outside test p ss in
    let all = count_cons p s ss in
    let kept = count_cons p s (selections_outside test ss) in
    elim (test s.viewer) as (λ b. count_by p (cond (not b) (s ∷ selections_outside test ss)
    (selections_outside test ss)) ≤ count_by p (s ∷ ss)) [
      | true ↦ omega (arith, few, all)
      | false ↦ omega (arith, few, all, kept)
    ]

module _ (columns : Columns) (long later : ℕ → ℕ) (test : ℕ → Bool)
    (same : (v : ℕ) → test v ≡ false → later v ≡ long v) where
  caret_stays : (caret : Option Caret) → ForSome caret (IsCaretPlaced columns long)
      → ForSome (caret_outside test caret) (IsCaretPlaced columns later)
  caret_stays None stands = λ c is. absurd (cc is)
  caret_stays (Some caret) stands =
      (elim (test caret.viewer) as (λ b. test caret.viewer ≡ b
      → ForSome (cond b None (Some caret)) (IsCaretPlaced columns later)) [
        | true ↦ λ inside c is. absurd (cc is)
        | false ↦ λ outside c is.
            let old = stands caret refl in
            let now : IsCaretPlaced columns later caret = record {
              placed = old.placed;
              within = (let low = old.within in let size = same caret.viewer outside in omega (arith, low, size));
            } in
            let it : caret ≡ c = cc is in subst (IsCaretPlaced columns later) it now
      ]) refl

  selections_stay : (selections : List Selection) → AllByRecursion (IsSelection columns long) selections
      → AllByRecursion (IsSelection columns later) (selections_outside test selections)
  selections_stay [] all = tt
  selections_stay (s ∷ ss) all =
      (elim (test s.viewer) as (λ b. test s.viewer ≡ b → AllByRecursion (IsSelection columns later)
      (cond (not b) (s ∷ selections_outside test ss) (selections_outside test ss))) [
        | true ↦ λ inside. selections_stay ss all.1
        | false ↦ λ outside. (
          record {
            placed = all.0.placed;
            some = all.0.some;
            within = (let low = all.0.within in let size = same s.viewer outside in omega (arith, low, size));
          },
          selections_stay ss all.1,
        )
      ]) refl

  pub marks_stay : (caret : Option Caret) (selections : List Selection) → AreMarks columns long caret selections
      → AreMarks columns later (caret_outside test caret) (selections_outside test selections)
  marks_stay caret selections are = record {
    caret_stands = caret_stays caret are.caret_stands;
    all_stand = All-from_recursion (IsSelection columns later) (selections_outside test selections)
        (selections_stay selections (recursion_from_All (IsSelection columns long) selections are.all_stand));
    one_each = λ v. (let few = fewer_outside test (λ s. s.viewer == v) selections in let one = are.one_each v in
        omega (arith, few, one));
  }
