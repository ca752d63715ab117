-- A stack as it is kept, from the lowest track up.
use Rattle.std.proofs.Common.{◌≡◌, ◌≢◌, ℕ, suc, zero, ◌+◌, ◌-◌, ◌<◌, ◌≤◌, List, [], ◌∷◌, length, get_or, set, take}
use Rattle.std.proofs.Common.{refl, ap, sym, subst, ◌∙◌, add-one, arith, ⊎_elim}
use Rattle.std.specs.Prelude.{Any}
use Rattle.std.proofs.lemmas.Bool.{cases_lt}
use Rattle.std.proofs.lemmas.List.{get_or-set_same, get_or-set_other, get_or_default}
use Rattle.std.proofs.lemmas.List.Sums.{sum_by-cons, sum_by_more, sum_by_more_le}
use Rattle.viewer_tracks.specs.Viewers.{Entry, times_in}
use Rattle.viewer_tracks.specs.Edits.{opened}
use Rattle.viewer_tracks.specs.Columns.{track_on, track_with, times_on, laid_on, whole_track}
use Rattle.viewer_tracks.specs.Levels.{first_tracks, stack_over}
use Rattle.viewer_tracks.proofs.StackLemmas.{level_at, with_there, with_under}

length-first_tracks : (ts : List (List Entry)) (n : ℕ) → length (first_tracks ts n) ≡ n
length-first_tracks ts zero = refl
length-first_tracks ts (suc n) = ap suc (length-first_tracks ts n)

pub length-stack_over : (ts : List (List Entry)) (k : ℕ) → length (stack_over ts k) ≡ k + 1
length-stack_over ts k = ap suc (length-first_tracks ts k) ∙ sym (add-one k)

-- the track of a level
first_tracks-at : (ts : List (List Entry)) (n i : ℕ) → i < n
    → get_or (first_tracks ts n) i [] ≡ get_or ts (n - suc i) []
first_tracks-at ts zero i within = absurd (omega (arith, within))
first_tracks-at ts (suc n) zero within =
    let same : n ≡ suc n - 1 = omega arith in ap (λ j. get_or ts j []) same
first_tracks-at ts (suc n) (suc i) within =
    let same : n - suc i ≡ suc n - suc (suc i) = omega arith in
    first_tracks-at ts n i (omega (arith, within)) ∙ ap (λ j. get_or ts j []) same

pub kept_level : (ts : List (List Entry)) (k level : ℕ) (d : List Entry) → k < length ts → 0 < level → level ≤ k + 1
    → get_or ts (level - 1) d ≡ track_on (stack_over ts k) level
kept_level ts k level d inside some within =
    let many = length-stack_over ts k in
    let place : level - 1 ≡ suc k - suc (length (stack_over ts k) - level) = omega (arith, many, some, within) in
    get_or_default ts (level - 1) d [] (omega (arith, inside, some, within))
    ∙ ap (λ j. get_or ts j []) place
    ∙ sym (first_tracks-at ts (suc k) (length (stack_over ts k) - level) (omega (arith, many, some, within)))
    ∙ sym (level_at (stack_over ts k) level some (omega (arith, many, within)))

-- a track that is written leaves those under it
first_tracks-set : (ts : List (List Entry)) (k n : ℕ) (t : List Entry) → n ≤ k
    → first_tracks (set ts k t) n ≡ first_tracks ts n
first_tracks-set ts k zero t under = refl
first_tracks-set ts k (suc n) t under =
    let other : n ≢ k = λ same. absurd (omega (arith, same, under)) in
    let here = get_or-set_other ts k n t [] other in
    let rest = first_tracks-set ts k n t (omega (arith, under)) in
    λ j. here j ∷ rest j

pub stack_over-set : (ts : List (List Entry)) (k : ℕ) (t : List Entry) → k < length ts
    → stack_over (set ts k t) k ≡ t ∷ first_tracks ts k
stack_over-set ts k t inside =
    let here = get_or-set_same ts k t [] inside in
    let rest = first_tracks-set ts k k t (omega arith) in
    λ j. here j ∷ rest j

-- a track put over the others
pub whole : (v : ℕ) → opened [] v 32 ≡ whole_track v
unfolding opened
whole v = refl

pub covered_over : (ts : List (List Entry)) (k : ℕ) (t : List Entry) → k + 1 < length ts
    → stack_over (set ts (k + 1) t) (k + 1) ≡ t ∷ stack_over ts k
covered_over ts k t inside = stack_over-set ts (k + 1) t inside ∙ ap (λ j. t ∷ first_tracks ts j) (add-one k)

-- a track that was closed in: it stays while a viewer is left, and else goes if it has one under it
laid_with : (s : List (List Entry)) (t : List Entry) → 0 < length t → laid_on s t ≡ t ∷ s
laid_with [] t some = refl
laid_with (u ∷ s) [] some = absurd (omega (arith, some))
laid_with (u ∷ s) (e ∷ t) some = refl

no_entry : (t : List Entry) → length t ≡ 0 → t ≡ []
no_entry [] none = refl
no_entry (e ∷ t) none = absurd (omega (arith, none))

pub closed_stays : (ts : List (List Entry)) (k : ℕ) (t : List Entry) → k < length ts → 0 < length t
    → stack_over (set ts k t) k ≡ laid_on (first_tracks ts k) t
closed_stays ts k t inside some = stack_over-set ts k t inside ∙ sym (laid_with (first_tracks ts k) t some)

pub closed_goes : (ts : List (List Entry)) (k : ℕ) (t : List Entry) → k < length ts → length t ≡ 0
    → stack_over (set ts k t) (k - 1) ≡ laid_on (first_tracks ts k) t
closed_goes ts zero t inside none = stack_over-set ts zero t inside
closed_goes ts (suc n) t inside none =
    let under : suc n - 1 ≡ n = omega arith in
    ap (stack_over (set ts (suc n) t)) under ∙ first_tracks-set ts (suc n) (suc n) t (omega arith)
    ∙ ap (laid_on (first_tracks ts (suc n))) (sym (no_entry t none))

-- who stands there
pub times-first_tracks : (v : ℕ) (ts : List (List Entry)) (n : ℕ) → n ≤ length ts
    → times_on v (first_tracks ts n) ≡ times_on v (take n ts)
times-first_tracks v ts zero within = refl
times-first_tracks v ts (suc n) within =
    omega (
      arith,
      sum_by-cons (times_in v) (get_or ts n []) (first_tracks ts n),
      times-first_tracks v ts n (omega (arith, within)),
      sum_by_more (times_in v) ts n [] (omega (arith, within)),
      ap (λ j. times_on v (take j ts)) (add-one n),
    )

pub any_times : (v : ℕ) (ts : List (List Entry)) → Any (λ t. 0 < times_in v t) ts → 0 < times_on v ts
any_times v ts (k, t, within, is, some) =
    omega (arith, sum_by_more_le (times_in v) ts k t within, ap (times_in v) is, some)

further : (v : ℕ) (t : List Entry) (ts : List (List Entry)) → Any (λ t. 0 < times_in v t) ts
    → Any (λ t. 0 < times_in v t) (t ∷ ts)
further v t ts (k, u, within, is, some) = (suc k, u, omega (arith, within), is, some)

pub times_any : (v : ℕ) (ts : List (List Entry)) → 0 < times_on v ts → Any (λ t. 0 < times_in v t) ts
times_any v [] some = absurd (omega (arith, some))
times_any v (t ∷ ts) some =
    ⊎_elim
    (λ here. (0, t, omega arith, refl, here))
    (λ none. further v t ts (times_any v ts (omega (arith, sum_by-cons (times_in v) t ts, some, none))))
    (cases_lt 0 (times_in v t))

-- a viewer that is looked for from the track at `top` down stands at `index` or under it
pub record IsFurtherDown (ts : List (List Entry)) (top v index : ℕ) : Type 0 where
  pub within : index ≤ top
  pub same : track_with v (stack_over ts index) ≡ track_with v (stack_over ts top)
  pub placed : 0 < times_on v (stack_over ts index)

pub one_down : (ts : List (List Entry)) (top v index : ℕ) → IsFurtherDown ts top v index → 0 < index
    → times_in v (get_or ts index []) ≤ 0
    → IsFurtherDown ts top v (index - 1)
one_down ts top v zero at some none = absurd (omega (arith, some))
one_down ts top v (suc n) at some none =
    let under : suc n - 1 ≡ n = omega arith in
    subst (IsFurtherDown ts top v) (sym under) (record {
      within = omega (arith, at.within);
      same = sym (with_under v (get_or ts (suc n) []) (first_tracks ts (suc n)) none) ∙ at.same;
      placed = omega (
        arith,
        sum_by-cons (times_in v) (get_or ts (suc n) []) (first_tracks ts (suc n)),
        at.placed,
        none,
      );
    })

pub found_there : (ts : List (List Entry)) (top v index : ℕ) → IsFurtherDown ts top v index
    → 0 < times_in v (get_or ts index []) → get_or ts index [] ≡ track_with v (stack_over ts top)
found_there ts top v index at some = sym (with_there v (get_or ts index []) (first_tracks ts index) some) ∙ at.same

pub lowest_left : (ts : List (List Entry)) (top v index : ℕ) → IsFurtherDown ts top v index → index ≡ 0
    → 0 < times_in v (get_or ts index [])
lowest_left ts top v zero at low =
    omega (arith, sum_by-cons (times_in v) (get_or ts zero []) [], at.placed)
lowest_left ts top v (suc n) at low = absurd (omega (arith, low))
