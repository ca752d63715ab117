-- From the viewers that an image says of a desktop back to the desktop's viewers, caret and selections.
use Rattle.std.proofs.Common.{◌≡◌, ℕ, suc, zero, ◌+◌, ◌<◌, ◌≤◌, ◌∙◌, ◌==◌, true, false, cond}
use Rattle.std.proofs.Common.{length, List, [], ◌∷◌, map, min}
use Rattle.std.proofs.Common.{refl, sym, ap, subst, arith, Option, Some, None}
use Rattle.std.specs.Prelude.{All, IsSome, option_map, slice_get}
use Rattle.std.specs.Option.{option_or}
use Rattle.std.specs.List.{AllByRecursion, IsDistinct, count_by, filter_map, cons_option, range_with_len}
use Rattle.std.specs.Map.{keys_of}
use Rattle.std.specs.Ordering.{nat_cmp}
use Rattle.std.specs.BTreeMap.{is_at}
use Rattle.std.proofs.lemmas.Bool.{eqb-true, eq-eqb, ne_eqb}
use Rattle.std.proofs.lemmas.Cmp.{nat_cmp_total, eq_by_cmp_equiv}
use Rattle.std.specs.Ordering.{eq_by_cmp}
use Rattle.std.proofs.lemmas.List.{length-map}
use Rattle.std.proofs.lemmas.List.Elements.{All-map, All-tail}
use Rattle.std.proofs.lemmas.List.Sums.{sum_by-cons}
use Rattle.std.proofs.lemmas.Map.Entries.{length-keys_of}
use Rattle.std.proofs.lemmas.Map.Made.{is_some-lookup, length-le_from_is_member}
use Rattle.desktop_definitions.specs.declared.viewer.Viewer.{Viewer}
use Rattle.desktop_definitions.specs.declared.viewer.Caret.{Caret}
use Rattle.desktop_definitions.specs.declared.viewer.Selection.{Selection}
use Rattle.desktop_definitions.specs.Viewers.{viewer_in}
use Rattle.desktop_definitions.proofs.FewLaws.{all_any}
use Rattle.desktop_definitions.proofs.PlaceLaws.{at_same, at_other}
use Rattle.image_format.specs.declared.picture.Ranked.{Ranked}
use Rattle.image_format.specs.declared.picture.ViewerPicture.{ViewerPicture}
use Rattle.desktop_definitions.specs.Shown.{caret_position}
use Rattle.image_format.specs.Image.{ranked_in, picture_of}
use Rattle.desktop_image.specs.Images.{viewers_of, first_some, picture_caret, first_caret, with_rank, selected_at, selected_as}
use Rattle.desktop_image.specs.Images.{most_ranks, selections_of}

pub viewers_back : (caret : Option Caret) (selections : List Selection) (viewers : List (ℕ × Viewer))
    → viewers_of (map (picture_of caret selections) viewers) ≡ viewers
viewers_back caret selections [] = refl
viewers_back caret selections (e ∷ viewers) = λ k. e ∷ viewers_back caret selections viewers k

-- ---- the first of pictures that gives something

module _ {B : Type 0} (f : ℕ × Viewer → Option B) where
  -- what it gives, one of them gives
  first_given : (P : B → Type 0) (es : List (ℕ × Viewer)) (b : B) → ((e : ℕ × Viewer) → f e ≡ Some b → P b)
      → first_some f es ≡ Some b → P b
  first_given P [] b step is = absurd cc
  first_given P (e ∷ es) b step is = by_first (f e) refl is (first_given P es b step) where
    by_first : (o : Option B) → f e ≡ o → option_or o (first_some f es) ≡ Some b
        → (first_some f es ≡ Some b → P b) → P b
    by_first None none is rest = rest is
    by_first (Some c) some is rest = step e (some ∙ is)

  -- where it gives nothing, none of them does
  none_given : (es : List (ℕ × Viewer)) (v : ℕ) (x : Viewer) → viewer_in es v ≡ Some x → first_some f es ≡ None
      → f (v, x) ≡ None
  none_given [] v x found none = absurd cc
  none_given (e ∷ es) v x found none = by_first (f e) refl none (none_given es v x) where
    by_first : (o : Option B) → f e ≡ o → option_or o (first_some f es) ≡ None
        → (viewer_in es v ≡ Some x → first_some f es ≡ None → f (v, x) ≡ None) → f (v, x) ≡ None
    by_first (Some c) some none rest = absurd cc
    by_first None is none rest = (elim (is_at (nat_cmp v) e.0) as (λ b. is_at (nat_cmp v) e.0 ≡ b
        → (let o : Option Viewer = cond b (Some e.1) (viewer_in es v) in o) ≡ Some x → f (v, x) ≡ None) [
          | true ↦ λ here found.
              let same = at_same v e.0 here in
              let value : e.1 ≡ x = cc found in
              (λ k. f (same k, sym value k)) ∙ is
          | false ↦ λ other found. rest found none
        ]) refl found

  -- so it gives what f says, where that is given by one and by no other
  pub first_back : (es : List (ℕ × Viewer)) (wanted : Option B)
      → ((e : ℕ × Viewer) (b : B) → f e ≡ Some b → wanted ≡ Some b)
      → ((b : B) → wanted ≡ Some b → (v : ℕ) × (x : Viewer) × (viewer_in es v ≡ Some x) × (f (v, x) ≡ Some b))
      → first_some f es ≡ wanted
  first_back es wanted given there = by_first (first_some f es) refl wanted refl where
    by_first : (o : Option B) → first_some f es ≡ o → (w : Option B) → wanted ≡ w → o ≡ w
    by_first None none None is = refl
    by_first None none (Some b) is =
        let one = there b is in
        let no = none_given es one.0 one.1 one.2 none in
        absurd (cc (no, one.3))
    by_first (Some b) some w is =
        sym (first_given (λ b. wanted ≡ Some b) es b (λ e here. given e b here) some) ∙ is

first_map : {A B C : Type 0} (f : B → Option C) (g : A → B) (xs : List A)
    → first_some f (map g xs) ≡ first_some (λ x. f (g x)) xs
first_map f g [] = refl
first_map f g (x ∷ xs) = ap (option_or (f (g x))) (first_map f g xs)

-- the viewer of an id, where there is one
found_one : (viewers : List (ℕ × Viewer)) (v : ℕ) → IsSome (viewer_in viewers v)
    → (x : Viewer) × (viewer_in viewers v ≡ Some x)
found_one viewers v some = by_case (viewer_in viewers v) refl some where
  by_case : (o : Option Viewer) → viewer_in viewers v ≡ o → IsSome o → (x : Viewer) × (viewer_in viewers v ≡ Some x)
  by_case None none some = absurd cc
  by_case (Some x) is some = (x, is)

-- ---- the caret

abbrev at_position : ℕ → Option ℕ → Option Caret
at_position v o = option_map (λ n. record { viewer = v; position = n }) o

caret_given : (caret : Option Caret) (v : ℕ) (c : Caret) → at_position v (caret_position v caret) ≡ Some c → caret ≡ Some c
caret_given None v c is = absurd cc
caret_given (Some d) v c is = (elim (d.viewer == v) as (λ b. (d.viewer == v) ≡ b
    → at_position v (let o : Option ℕ = cond b (Some d.position) None in o) ≡ Some c
    → (let o : Option Caret = Some d in o) ≡ Some c) [
      | true ↦ λ same is. (λ k. Some (record { viewer = eqb-true d.viewer v same k; position = d.position })) ∙ is
      | false ↦ λ other is. absurd cc
    ]) refl is

caret_there : (c : Caret) → at_position c.viewer (caret_position c.viewer (Some c)) ≡ Some c
caret_there c = ap (λ b. at_position c.viewer (let o : Option ℕ = cond b (Some c.position) None in o))
    (eq-eqb c.viewer c.viewer refl)

pub caret_back : (caret : Option Caret) (selections : List Selection) (viewers : List (ℕ × Viewer))
    → ((c : Caret) → caret ≡ Some c → IsSome (viewer_in viewers c.viewer))
    → first_caret (map (picture_of caret selections) viewers) ≡ caret
unfolding first_caret
caret_back caret selections viewers there =
    first_map picture_caret (picture_of caret selections) viewers
    ∙ first_back (λ e. picture_caret (picture_of caret selections e)) viewers caret
    (λ e c is. caret_given caret e.0 c is)
    (λ c is. (let one = found_one viewers c.viewer (there c is) in
    (c.viewer, one.0, one.1, ap (λ o. at_position c.viewer (caret_position c.viewer o)) is ∙ caret_there c)))

-- ---- selections

abbrev this : ℕ → Selection → Ranked
this n s = record { rank = n; beg = s.beg; end = s.end }

abbrev in_viewer : ℕ → Ranked → Selection
in_viewer v r = record { viewer = v; beg = r.beg; end = r.end }

-- A selection that a viewer has with a rank stands in that place, where the first has the rank n.
record HasPlace (n v : ℕ) (selections : List Selection) (r : Ranked) : Type 0 where
  least : n ≤ r.rank
  place : (k : ℕ) → r.rank ≡ n + k → slice_get selections k ≡ Some (in_viewer v r)

at_first : (n v : ℕ) (s : Selection) (later : List Selection) (r : Ranked) → s.viewer ≡ v
    → (let o : Option Ranked = Some (this n s) in o) ≡ Some r → HasPlace n v (s ∷ later) r
at_first n v s later r same is =
    let ranked : this n s ≡ r = cc is in
    let rank : n ≡ r.rank = ap (λ (x : Ranked). x.rank) ranked in
    record {
      least = omega (arith, rank);
      place = λ k at. (let first : k ≡ 0 = omega (arith, at, rank) in
          subst (λ j. slice_get (s ∷ later) j ≡ Some (in_viewer v r)) (sym first)
          ((λ j. Some (record { viewer = same j; beg = s.beg; end = s.end }))
          ∙ ap (λ (x : Ranked). (let o : Option Selection = Some (in_viewer v x) in o)) ranked));
    }

at_later : (n v : ℕ) (s : Selection) (later : List Selection) (r : Ranked) → HasPlace (n + 1) v later r
    → HasPlace n v (s ∷ later) r
at_later n v s later r has =
    let low = has.least in
    record {
      least = omega (arith, low);
      place = at_place low has.place;
    }
  where
    at_place : n + 1 ≤ r.rank → ((k : ℕ) → r.rank ≡ n + 1 + k → slice_get later k ≡ Some (in_viewer v r)) → (k : ℕ)
        → r.rank ≡ n + k → slice_get (s ∷ later) k ≡ Some (in_viewer v r)
    at_place low rest zero at = absurd (omega (arith, low, at))
    at_place low rest (suc k) at = rest k (omega (arith, at))

has_place : (n v : ℕ) (selections : List Selection) (r : Ranked) → ranked_in n selections v ≡ Some r
    → HasPlace n v selections r
has_place n v [] r is = absurd cc
has_place n v (s ∷ later) r is = (elim (s.viewer == v) as (λ b. (s.viewer == v) ≡ b
    → (let o : Option Ranked = cond b (Some (this n s)) (ranked_in (n + 1) later v) in o) ≡ Some r
    → HasPlace n v (s ∷ later) r) [
      | true ↦ λ same is. at_first n v s later r (eqb-true s.viewer v same) is
      | false ↦ λ other is. at_later n v s later r (has_place (n + 1) v later r is)
    ]) refl is

-- what a viewer gives for a rank stands in that place
given_there : (n m k : ℕ) (p : ViewerPicture) (selections : List Selection) (t : Selection) (o : Option Ranked)
    → m ≡ n + k → ranked_in n selections p.id ≡ o → with_rank m p o ≡ Some t → slice_get selections k ≡ Some t
given_there n m k p selections t None at is given = absurd cc
given_there n m k p selections t (Some r) at is given = (elim (r.rank == m) as (λ b. (r.rank == m) ≡ b
    → (let o : Option Selection = cond b (Some (in_viewer p.id r)) None in o) ≡ Some t
    → slice_get selections k ≡ Some t) [
      | true ↦ λ same given. (has_place n p.id selections r is).place k (eqb-true r.rank m same ∙ at) ∙ given
      | false ↦ λ other given. absurd cc
    ]) refl given

-- ---- one in each viewer

abbrev count : ℕ → List Selection → ℕ
count v selections = count_by (λ s. s.viewer == v) selections

count_first : (v : ℕ) (s : Selection) (later : List Selection)
    → count v (s ∷ later) ≡ (let n : ℕ = cond (s.viewer == v) 1 0 in n) + count v later
count_first v s later = sum_by-cons (λ (t : Selection). (let n : ℕ = cond (t.viewer == v) 1 0 in n)) s later

counts_itself : (s : Selection) (later : List Selection) → count s.viewer (s ∷ later) ≡ 1 + count s.viewer later
counts_itself s later =
    let all = count_first s.viewer s later in
    let one = ap (λ b. (let n : ℕ = cond b 1 0 in n)) (eq-eqb s.viewer s.viewer refl) in
    omega (arith, all, one)

one_later : (s : Selection) (later : List Selection) → ((v : ℕ) → count v (s ∷ later) ≤ 1) → (v : ℕ)
    → count v later ≤ 1
one_later s later one v = let all = count_first v s later in let here = one v in omega (arith, all, here)

counted : (selections : List Selection) (k : ℕ) (s : Selection) → slice_get selections k ≡ Some s
    → 0 < count s.viewer selections
counted [] k s is = absurd cc
counted (t ∷ later) zero s is =
    let same : t.viewer ≡ s.viewer = cc is in
    let all = count_first s.viewer t later in
    let one = ap (λ b. (let n : ℕ = cond b 1 0 in n)) (eq-eqb t.viewer s.viewer same) in
    omega (arith, all, one)
counted (t ∷ later) (suc k) s is =
    let rest = counted later k s is in
    let all = count_first s.viewer t later in
    omega (arith, all, rest)

-- so the selection of a place has its rank in its viewer
has_rank : (n m k : ℕ) (selections : List Selection) (s : Selection) → m ≡ n + k
    → ((v : ℕ) → count v selections ≤ 1) → slice_get selections k ≡ Some s
    → ranked_in n selections s.viewer ≡ Some (this m s)
has_rank n m k [] s at one is = absurd cc
has_rank n m zero (t ∷ later) s at one is =
    let same : t ≡ s = cc is in
    let rank : n ≡ m = omega (arith, at) in
    let here = eq-eqb t.viewer s.viewer (ap (λ (x : Selection). x.viewer) same) in
    ap (λ b. (let o : Option Ranked = cond b (Some (this n t)) (ranked_in (n + 1) later s.viewer) in o)) here
    ∙ (λ j. Some (this (rank j) (same j)))
has_rank n m (suc k) (t ∷ later) s at one is =
    let there = counted later k s is in
    let all = count_first s.viewer t later in
    let once = one s.viewer in
    let other : ¬ (t.viewer ≡ s.viewer) =
    λ same. (let here = ap (λ b. (let n : ℕ = cond b 1 0 in n)) (eq-eqb t.viewer s.viewer same) in
    omega (arith, there, all, once, here)) in
    ap (λ b. (let o : Option Ranked = cond b (Some (this n t)) (ranked_in (n + 1) later s.viewer) in o))
    (ne_eqb t.viewer s.viewer other)
    ∙ has_rank (n + 1) m k later s (omega (arith, at)) (one_later t later one) is

-- ---- no more selections than viewers

apart : (v : ℕ) (later : List Selection) → count v later ≤ 0
    → AllByRecursion (λ w. eq_by_cmp nat_cmp v w ≡ false) (map (λ s. s.viewer) later)
apart v [] none = tt
apart v (s ∷ later) none =
    let all = count_first v s later in
    let other : ¬ (v ≡ s.viewer) =
    λ same. (let here = ap (λ b. (let n : ℕ = cond b 1 0 in n)) (eq-eqb s.viewer v (sym same)) in
    omega (arith, all, here, none)) in
    (at_other v s.viewer other, apart v later (omega (arith, all, none)))

distinct : (selections : List Selection) → ((v : ℕ) → count v selections ≤ 1)
    → IsDistinct (eq_by_cmp nat_cmp) (map (λ s. s.viewer) selections)
unfolding IsDistinct
distinct [] one = tt
distinct (s ∷ later) one = (
  apart s.viewer later (let here = one s.viewer in let itself = counts_itself s later in omega (arith, here, itself)),
  distinct later (one_later s later one),
)

few_selections : (viewers : List (ℕ × Viewer)) (selections : List Selection)
    → All (λ s. IsSome (viewer_in viewers s.viewer)) selections → ((v : ℕ) → count v selections ≤ 1)
    → length selections ≤ length viewers
few_selections viewers selections there one =
    let few = length-le_from_is_member (eq_by_cmp_equiv nat_cmp_total) (map (λ (s : Selection). s.viewer) selections)
    (keys_of viewers) (distinct selections one)
    (λ q is. sym (is_some-lookup (is_at (nat_cmp q)) viewers)
    ∙ all_any q (λ v. IsSome (viewer_in viewers v)) (map (λ (s : Selection). s.viewer) selections)
    (All-map (λ v. IsSome (viewer_in viewers v)) (λ (s : Selection). s.viewer) selections there) is) in
    let same = length-keys_of viewers in
    let long = length-map {B = ℕ} selections (λ (s : Selection). s.viewer) in
    omega (arith, few, same, long)

-- ---- by rank

range_back : (h : ℕ → Option Selection) (selections : List Selection) (a n : ℕ)
    → ((k m : ℕ) → m ≡ a + k → h m ≡ slice_get selections k) → length selections ≤ n
    → filter_map h (range_with_len a n) ≡ selections
range_back h [] a zero places low = refl
range_back h [] a (suc n) places low =
    ap (λ o. cons_option o (filter_map h (range_with_len (a + 1) n))) (places 0 a (omega arith))
    ∙ range_back h [] (a + 1) n (λ k m at. places (suc k) m (omega (arith, at))) (omega arith)
range_back h (s ∷ later) a zero places low = absurd (omega (arith, low))
range_back h (s ∷ later) a (suc n) places low =
    ap (λ o. cons_option o (filter_map h (range_with_len (a + 1) n))) (places 0 a (omega arith))
    ∙ ap (λ (l : List Selection). s ∷ l)
    (range_back h later (a + 1) n (λ k m at. places (suc k) m (omega (arith, at))) (omega (arith, low)))

all_got : (P : Selection → Type 0) (selections : List Selection) (k : ℕ) (s : Selection) → All P selections
    → slice_get selections k ≡ Some s → P s
all_got P [] k s all is = absurd cc
all_got P (t ∷ later) zero s all is =
    let same : t ≡ s = cc is in
    subst P same (all 0 t (omega arith))
all_got P (t ∷ later) (suc k) s all is = all_got P later k s (All-tail P t later all) is

module _ (caret : Option Caret) (selections : List Selection) (viewers : List (ℕ × Viewer))
    (there : All (λ s. IsSome (viewer_in viewers s.viewer)) selections) (one : (v : ℕ) → count v selections ≤ 1) where
  abbrev pictures : List ViewerPicture
  pictures = map (picture_of caret selections) viewers

  place_back : (k m : ℕ) → m ≡ 1 + k → selected_as pictures m ≡ slice_get selections k
  unfolding selected_as
  place_back k m at =
      first_map (selected_at m) (picture_of caret selections) viewers
      ∙ first_back (λ e. selected_at m (picture_of caret selections e)) viewers (slice_get selections k)
      (λ e t is. given_there 1 m k (picture_of caret selections e) selections t (ranked_in 1 selections e.0) at refl is)
      (λ s is. (let found = found_one viewers s.viewer
      (all_got (λ t. IsSome (viewer_in viewers t.viewer)) selections k s there is) in (
        s.viewer,
        found.0,
        found.1,
        ap (with_rank m (picture_of caret selections (s.viewer, found.0))) (has_rank 1 m k selections s at one is)
            ∙ ap (λ b. (let o : Option Selection = cond b (Some s) None in o)) (eq-eqb m m refl),
      )))

  pub selections_back : length selections ≤ most_ranks → selections_of pictures ≡ selections
  unfolding selections_of
  selections_back low =
      let few = few_selections viewers selections there one in
      let long = length-map {B = ViewerPicture} viewers (picture_of caret selections) in
      range_back (selected_as pictures) selections 1 (min (length pictures) most_ranks) place_back
      (omega (arith, few, long, low))
