-- Laws of how many there are: viewers at most as many as the rows of all tracks and one, and texts by the viewers that
-- show them.
use Rattle.std.specs.Prelude.{◌≡◌, ℕ, ◌+◌, ◌*◌, ◌<◌, ◌≤◌, ◌==◌, ◌||◌, Bool, true, false, cond, IsTrue}
use Rattle.std.specs.Prelude.{All}
use Rattle.std.specs.Prelude.{List, [], ◌∷◌, ◌++◌, length, map, sum_by, Option, Some, None, option_map}
use Rattle.std.specs.List.{list_any}
use Rattle.std.specs.List.Sorted.{IsStrictlySortedBy}
use Rattle.std.specs.Map.{keys_of}
use Rattle.std.specs.Ordering.{nat_cmp}
use Rattle.std.specs.BTreeMap.{is_at}
use Rattle.std.proofs.Common.{refl, sym, subst, ◌∙◌, arith, ⊎_elim, length-append}
use Rattle.std.proofs.lemmas.Bool.{cases_lt}
use Rattle.std.proofs.lemmas.Bool.Decides.{nat_tests}
use Rattle.std.proofs.lemmas.Cmp.{nat_cmp_total, eq_by_cmp_equiv}
use Rattle.std.proofs.lemmas.List.{length-map}
use Rattle.std.proofs.lemmas.List.Elements.{All-tail}
use Rattle.std.proofs.lemmas.List.Sums.{sum_by-cons}
use Rattle.std.proofs.lemmas.Map.Entries.{length-keys_of}
use Rattle.std.proofs.lemmas.Map.Keys.{IsDistinct-from_sorted}
use Rattle.std.proofs.lemmas.Map.Made.{is_some-lookup, length-le_from_is_member}
use Rattle.viewer_tracks.specs.declared.display.TheConstants.{ROWS, DEPTH}
use Rattle.viewer_tracks.specs.Viewers.{Entry, IsTrack, times_in}
use Rattle.viewer_tracks.specs.Columns.{Columns, times_on, times_meant}
use Rattle.desktop_definitions.specs.declared.viewer.Viewer.{Viewer}
use Rattle.desktop_definitions.specs.declared.viewer.ClosedViewer.{ClosedViewer}
use Rattle.desktop_definitions.specs.Desktop.{DesktopOf}
use Rattle.desktop_definitions.specs.Opening.{is_shown}
use Rattle.desktop_definitions.specs.Sound.{ArePlaces, times_there}
use Rattle.desktop_definitions.proofs.PlaceLaws.{at_is, at_same}

-- ---- tests of lists

or_left : (a b : Bool) → a ≡ true → a || b ≡ true
or_left true b is = refl
or_left false b is = absurd cc

or_right : (a b : Bool) → b ≡ true → a || b ≡ true
or_right true b is = refl
or_right false b is = is

or_three : (a b c : Bool) → a || (b || c) ≡ (a || b) || c
or_three true b c = refl
or_three false b c = refl

any_left : (test : ℕ → Bool) (ks more : List ℕ) → list_any test ks ≡ true → list_any test (ks ++ more) ≡ true
any_left test [] more is = absurd cc
any_left test (k ∷ ks) more is = (elim (test k) as
    (λ b. b || list_any test ks ≡ true → b || list_any test (ks ++ more) ≡ true) [
      | true ↦ λ is. refl
      | false ↦ λ is. any_left test ks more is
    ]) is

any_right : (test : ℕ → Bool) (ks more : List ℕ) → list_any test more ≡ true → list_any test (ks ++ more) ≡ true
any_right test [] more is = is
any_right test (k ∷ ks) more is = or_right (test k) _ (any_right test ks more is)

-- ---- who stands in a track

abbrev names : List Entry → List ℕ
names t = map (λ e. e.viewer) t

-- things of which each counts at least once
pub few_some : {T : Type 0} (count : T → ℕ) (l : List T) → All (λ x. 0 < count x) l → length l ≤ sum_by count l
few_some count [] some = omega arith
few_some {T} count (x ∷ l) some =
    let rest = few_some count l (All-tail (λ (y : T). 0 < count y) x l some) in
    let here : 0 < count x = some 0 x (omega arith) in
    let all = sum_by-cons count x l in
    omega (arith, rest, here, all)

few_names : (t : List Entry) → IsTrack t → length (names t) ≤ ROWS
few_names t track =
    let long = length-map {B = ℕ} t (λ (e : Entry). e.viewer) in
    let few = few_some (λ (e : Entry). e.height) t track.some in
    let fits = track.fits in
    omega (arith, long, few, fits)

named_in : (v : ℕ) (t : List Entry) → 0 < times_in v t → list_any (is_at (nat_cmp v)) (names t) ≡ true
named_in v [] some = absurd (omega (arith, some))
named_in v (e ∷ t) some =
    let all = sum_by-cons (λ (x : Entry). (let n : ℕ = cond (x.viewer == v) 1 0 in n)) e t in
    let sum : 0 < cond (e.viewer == v) 1 0 + times_in v t = omega (arith, some, all) in
    (elim (e.viewer == v) as (λ b. (e.viewer == v) ≡ b → 0 < cond b 1 0 + times_in v t
    → is_at (nat_cmp v) e.viewer || list_any (is_at (nat_cmp v)) (names t) ≡ true) [
      | true ↦ λ is some. or_left _ _ (at_is v e.viewer ∙ is)
      | false ↦ λ is some. or_right (is_at (nat_cmp v) e.viewer) _ (named_in v t (omega (arith, some)))
    ]) refl sum

-- ---- who stands in a stack of tracks

abbrev all_names : List (List Entry) → List ℕ
all_names [] = []
all_names (t ∷ under) = names t ++ all_names under

few_on : (s : List (List Entry)) → All IsTrack s → length (all_names s) ≤ ROWS * length s
few_on [] all = omega arith
few_on (t ∷ under) all =
    let here = few_names t (all 0 t (omega arith)) in
    let rest = few_on under (All-tail IsTrack t under all) in
    let sum = length-append (names t) (all_names under) in
    omega (arith, here, rest, sum)

named_on : (v : ℕ) (s : List (List Entry)) → 0 < times_on v s → list_any (is_at (nat_cmp v)) (all_names s) ≡ true
named_on v [] some = absurd (omega (arith, some))
named_on v (t ∷ under) some =
    ⊎_elim
    (λ here. any_left _ (names t) (all_names under) (named_in v t here))
    (λ not_here. any_right _ (names t) (all_names under)
    (named_on v under (omega (arith, some, not_here, sum_by-cons (times_in v) t under))))
    (cases_lt 0 (times_in v t))

-- ---- viewers

abbrev closed_name : Option ClosedViewer → List ℕ
closed_name None = []
closed_name (Some k) = k.viewer ∷ []

one_closed : (closed : Option ClosedViewer) → length (closed_name closed) ≤ 1
one_closed None = omega arith
one_closed (Some k) = omega arith

named_closed : (v : ℕ) (closed : Option ClosedViewer) → 0 < times_meant v (option_map (λ k. k.viewer) closed)
    → list_any (is_at (nat_cmp v)) (closed_name closed) ≡ true
named_closed v None some = absurd (omega (arith, some))
named_closed v (Some k) some = (elim (k.viewer == v) as (λ b. (k.viewer == v) ≡ b → 0 < cond b 1 0
    → is_at (nat_cmp v) k.viewer || false ≡ true) [
      | true ↦ λ is some. or_left _ _ (at_is v k.viewer ∙ is)
      | false ↦ λ is some. absurd (omega (arith, some))
    ]) refl some

module _ (viewers : List (ℕ × Viewer)) (columns : Columns) (closed : Option ClosedViewer)
    (are : ArePlaces viewers columns closed) where
  abbrev user : List ℕ
  user = all_names columns.user

  abbrev system : List ℕ
  system = all_names columns.system

  abbrev all_there : List ℕ
  all_there = user ++ (system ++ closed_name closed)

  few_all : length all_there ≤ ROWS * (length columns.user + length columns.system) + 1
  few_all =
      let first = few_on columns.user are.columns_hold.user.tracks in
      let second = few_on columns.system are.columns_hold.system.tracks in
      let third = one_closed closed in
      let sum = length-append user (system ++ closed_name closed) in
      let more = length-append system (closed_name closed) in
      omega (arith, first, second, third, sum, more)

  named_there : (v : ℕ) → 0 < times_there columns closed v → list_any (is_at (nat_cmp v)) all_there ≡ true
  named_there v some =
      ⊎_elim
      (λ left. any_left _ user (system ++ closed_name closed) (named_on v columns.user left))
      (λ no_user. any_right _ user (system ++ closed_name closed) (⊎_elim
      (λ right. any_left _ system (closed_name closed) (named_on v columns.system right))
      (λ no_system. any_right _ system (closed_name closed) (named_closed v closed (omega (arith, some, no_user, no_system))))
      (cases_lt 0 (times_on v columns.system))))
      (cases_lt 0 (times_on v columns.user))

  some_there : (v : ℕ) (found : Bool) → found ≡ true → times_there columns closed v ≡ cond found 1 0
      → 0 < times_there columns closed v
  some_there v true is once = omega (arith, once)
  some_there v false is once = absurd cc

  -- no more than there are rows in all tracks, and one
  pub few_by_depth : IsStrictlySortedBy nat_cmp (keys_of viewers)
      → length viewers ≤ ROWS * (length columns.user + length columns.system) + 1
  few_by_depth ids =
      let few = length-le_from_is_member (eq_by_cmp_equiv nat_cmp_total) (keys_of viewers) all_there
      (IsDistinct-from_sorted nat_cmp (keys_of viewers) ids)
      (λ q is. named_there q (some_there q _ (is_some-lookup (is_at (nat_cmp q)) viewers ∙ is) (are.once q))) in
      let same = length-keys_of viewers in
      omega (arith, few, few_all, same)

  pub few_viewers : IsStrictlySortedBy nat_cmp (keys_of viewers) → length viewers ≤ 2 * DEPTH * ROWS + 1
  few_viewers ids =
      omega (arith, few_by_depth ids, are.columns_hold.user.few, are.columns_hold.system.few)

-- ---- texts

abbrev shown_numbers : List (ℕ × Viewer) → List ℕ
shown_numbers [] = []
shown_numbers (e ∷ es) = e.1.menu ∷ e.1.main ∷ shown_numbers es

two_each : (viewers : List (ℕ × Viewer)) → length (shown_numbers viewers) ≡ 2 * length viewers
two_each [] = refl
two_each (e ∷ es) = let rest = two_each es in omega (arith, rest)

is_number : (q : ℕ) (viewers : List (ℕ × Viewer)) → list_any (is_at (nat_cmp q)) (shown_numbers viewers)
    ≡ list_any (λ e. (e.1.menu == q) || (e.1.main == q)) viewers
is_number q [] = refl
is_number q (e ∷ es) =
    (λ i. at_is q e.1.menu i || (at_is q e.1.main i || is_number q es i))
    ∙ or_three (e.1.menu == q) (e.1.main == q) (list_any (λ x. (x.1.menu == q) || (x.1.main == q)) es)

the_log : (q : ℕ) → (0 == q) ≡ (q == 0)
the_log q = grind (arith, nat_tests)

-- what holds of each number of a list holds of one that is among them
pub all_any : (q : ℕ) (P : ℕ → Type 0) (ks : List ℕ) → All P ks → list_any (is_at (nat_cmp q)) ks ≡ true → P q
all_any q P [] all is = absurd cc
all_any q P (k ∷ ks) all is = (elim (is_at (nat_cmp q) k) as (λ b. is_at (nat_cmp q) k ≡ b
    → b || list_any (is_at (nat_cmp q)) ks ≡ true → P q) [
      | true ↦ λ here is. subst P (sym (at_same q k here)) (all 0 k (omega arith))
      | false ↦ λ not is. all_any q P ks (All-tail P k ks all) is
    ]) refl is

pub few_texts : {T : Type 0} (d : DesktopOf T) → IsStrictlySortedBy nat_cmp (keys_of d.texts)
    → All (λ n. IsTrue (is_shown d.viewers n)) (keys_of d.texts) → length d.texts ≤ 1 + 2 * length d.viewers
few_texts d numbers shown =
    let few = length-le_from_is_member (eq_by_cmp_equiv nat_cmp_total) (keys_of d.texts) (0 ∷ shown_numbers d.viewers)
    (IsDistinct-from_sorted nat_cmp (keys_of d.texts) numbers)
    (λ q is. (λ i. (at_is q 0 ∙ the_log q) i || is_number q d.viewers i)
    ∙ all_any q (λ n. IsTrue (is_shown d.viewers n)) (keys_of d.texts) shown is) in
    let same = length-keys_of d.texts in
    let two = two_each d.viewers in
    omega (arith, few, same, two)
