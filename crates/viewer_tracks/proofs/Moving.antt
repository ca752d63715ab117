-- A viewer's edge found, moved and taken out.
use Rattle.std.proofs.Common.{◌≡◌, ℕ, suc, ◌+◌, ◌-◌, ◌<◌, ◌≤◌, true, false, cond, not, nat_lt, ◌==◌, List, [], ◌∷◌}
use Rattle.std.proofs.Common.{length, get_or, set, refl, ap, sym, subst, ◌∙◌, add-one, arith, min, ⊎_elim}
use Rattle.std.specs.Prelude.{remove, count_by}
use Rattle.std.specs.List.{position_or_len}
use Rattle.std.proofs.lemmas.List.Sums.{sum_by-cons}
use Rattle.std.proofs.lemmas.List.{get_or_default}
use Rattle.std.proofs.lemmas.Bool.{lt-ltb, le-ltb, cases_lt}
use Rattle.std.proofs.lemmas.Bool.Decides.{nat_tests}
use Rattle.std.proofs.lemmas.Grind.{common_steps}
use Rattle.viewer_tracks.specs.declared.edges.Edge.{Edge}
use Rattle.viewer_tracks.specs.declared.display.TheConstants.{ROWS}
use Rattle.viewer_tracks.specs.Viewers.{Entry, bottom_of, top_of, times_in, entry_of}
use Rattle.viewer_tracks.specs.Edits.{with_entry, with_height, change_top, changed, closed}
use Rattle.viewer_tracks.specs.Edges.{entries_from, Rises}
use Rattle.viewer_tracks.proofs.Positions.{counted, found}
use Rattle.viewer_tracks.proofs.EdgeLemmas.{length-entries_from, bottom_of-entries_from, entries_from-remove}
use Rattle.viewer_tracks.proofs.EdgeLemmas.{Rises-remove, entries_from-with_top, Rises-with_top, Rises-top}
use Rattle.viewer_tracks.proofs.Opening.{no_edge, bottom_of-grows}

-- a viewer stands in the track as often as among the edges, and at the same place
pub times_in-entries_from : (v : ℕ) (b : ℕ) (es : List Edge)
    → times_in v (entries_from b es) ≡ count_by (λ e. e.viewer.0 == v) es
times_in-entries_from v b [] = refl
times_in-entries_from v b (e ∷ es) =
    sum_by-cons (λ (x : Entry). cond (x.viewer == v) 1 0) (record { viewer = e.viewer.0; height = e.top - b })
    (entries_from e.top es)
    ∙ ap (λ n. cond (e.viewer.0 == v) 1 0 + n) (times_in-entries_from v e.top es)
    ∙ sym (sum_by-cons (λ (x : Edge). cond (x.viewer.0 == v) 1 0) e es)

pub entry_of-entries_from : (v : ℕ) (b : ℕ) (es : List Edge)
    → entry_of (entries_from b es) v ≡ position_or_len (λ e. e.viewer.0 == v) es
entry_of-entries_from v b [] = refl
entry_of-entries_from v b (e ∷ es) =
    ap (λ n. cond (not (e.viewer.0 == v)) (1 + n) 0) (entry_of-entries_from v e.top es)

pub placed_within : (v : ℕ) (es : List Edge) → 0 < times_in v (entries_from 0 es)
    → position_or_len (λ e. e.viewer.0 == v) es < length es
placed_within v es placed =
    counted (λ (e : Edge). e.viewer.0 == v) es (omega (arith, times_in-entries_from v 0 es))

pub within_placed : (v : ℕ) (es : List Edge) → position_or_len (λ e. e.viewer.0 == v) es < length es
    → 0 < times_in v (entries_from 0 es)
within_placed v es within =
    omega (arith, times_in-entries_from v 0 es, found (λ (e : Edge). e.viewer.0 == v) es within)

pub top_of-entries_from : (es : List Edge) (i : ℕ) (d : Edge) → Rises 0 es → i < length es
    → top_of (entries_from 0 es) i ≡ (get_or es i d).top
top_of-entries_from es i d rising within =
    let many = length-entries_from 0 es in
    let ends = bottom_of-entries_from 0 es i d rising within in
    grind (arith, nat_tests)

-- the edge of entry i taken out
pub closed-entries_from : (es : List Edge) (i : ℕ) → Rises 0 es → i < length es
    → entries_from 0 (remove es i) ≡ closed (entries_from 0 es) i
unfolding closed
closed-entries_from es i rising within =
    let t = entries_from 0 es in
    let ends = top_of-entries_from es i no_edge rising within in
    let grows = bottom_of-grows 0 es i no_edge rising within in
    let h = top_of t i - bottom_of t i in
    subst (λ (j : ℕ). entries_from 0 (remove es i) ≡ remove (with_entry (λ e. with_height (e.height + h) e) t j) i)
    (sym (add-one i)) (entries_from-remove 0 es i h no_edge within (omega arith) rising)

-- how far the top of entry i can be moved
pub change_top-below : (es : List Edge) (i y : ℕ) (d : Edge) → Rises 0 es → i + 1 < length es
    → change_top (entries_from 0 es) i y ≡ min (min y ROWS) ((get_or es (i + 1) d).top - 1)
change_top-below es i y d rising more =
    let t = entries_from 0 es in
    let many = length-entries_from 0 es in
    let next = top_of-entries_from es (i + 1) d rising more in
    let inside : nat_lt (i + 1) (length t) ≡ true = lt-ltb _ _ (omega arith) in
    ap (λ b. cond b (min (min y ROWS) (top_of t (i + 1) - 1)) (min y ROWS)) inside
    ∙ ap (λ n. min (min y ROWS) (n - 1)) next

pub change_top-last : (es : List Edge) (i y : ℕ) → length es ≤ i + 1
    → change_top (entries_from 0 es) i y ≡ min y ROWS
change_top-last es i y last =
    let t = entries_from 0 es in
    let many = length-entries_from 0 es in
    let outside : nat_lt (i + 1) (length t) ≡ false = le-ltb _ _ (omega arith) in
    ap (λ b. cond b (min (min y ROWS) (top_of t (i + 1) - 1)) (min y ROWS)) outside

pub record Moving (es : List Edge) (y i z : ℕ) : Type 0 where
  pub rising : Rises 0 es
  pub within : i < length es
  pub to : z ≡ change_top (entries_from 0 es) i y
  pub fits : z ≤ ROWS
  pub below : (d : Edge) → i + 1 < length es → z < (get_or es (i + 1) d).top

pub moving : (es : List Edge) (y i z : ℕ) → Rises 0 es → i < length es
    → (i + 1 < length es → z ≡ min (min y ROWS) ((get_or es (i + 1) no_edge).top - 1))
    → (length es ≤ i + 1 → z ≡ min y ROWS)
    → Moving es y i z
moving es y i z rising within lower last =
    record {
      rising = rising;
      within = within;
      to = ⊎_elim (λ more. lower more ∙ sym (change_top-below es i y no_edge rising more))
          (λ end. last end ∙ sym (change_top-last es i y end)) (cases_lt (i + 1) (length es));
      fits = ⊎_elim (λ more. let is = lower more in omega arith) (λ end. let is = last end in omega arith)
          (cases_lt (i + 1) (length es));
      below = λ d more.
          let is = lower more in
          let up = Rises-top 0 es (i + 1) no_edge rising more in
          let same = ap (λ (e : Edge). e.top) (get_or_default es (i + 1) d no_edge more) in
          omega arith;
    }

-- the edge of entry i written
pub changed-moving : (es : List Edge) (y i z : ℕ) (d : Edge) → Moving es y i z → bottom_of (entries_from 0 es) i < z
    → (entries_from 0 (set es i (record { viewer = (get_or es i d).viewer; top = z })) ≡ changed
    (entries_from 0 es) i y)
    × Rises 0 (set es i (record { viewer = (get_or es i d).viewer; top = z }))
unfolding changed
changed-moving es y i z d m up =
    let t = entries_from 0 es in
    let lifted = λ (n : ℕ). with_entry (with_height (top_of t (i + 1) - n))
    (with_entry (with_height (n - bottom_of t i)) t i) (i + 1) in
    let above : suc i < length es → z < (get_or es (suc i) d).top =
    λ more. subst (λ (j : ℕ). z < (get_or es j d).top) (add-one i) (m.below d (omega arith)) in
    let k = top_of t (i + 1) - z in
    let rest : suc i < length es → z + k ≡ (get_or es (suc i) d).top =
    λ more.
    let less = above more in
    let ends = top_of-entries_from es (suc i) d m.rising more in
    let same = ap (top_of t) (add-one i) in
    omega arith in (
      subst (λ (j : ℕ). entries_from 0 (set es i (record { viewer = (get_or es i d).viewer; top = z }))
          ≡ with_entry (with_height k) (with_entry (with_height (z - bottom_of t i)) t i) j)
          (sym (add-one i)) (entries_from-with_top 0 es i (z - bottom_of t i) k z d m.within
          (omega arith) rest m.rising)
          ∙ ap (λ b. cond b (lifted z) t) (sym (lt-ltb _ _ up))
          ∙ ap (λ n. cond (nat_lt (bottom_of t i) n) (lifted n) t) m.to,
      Rises-with_top 0 es i z (get_or es i d).viewer d m.within (omega arith) above m.fits m.rising,
    )

-- nothing to move
pub changed-staying : (es : List Edge) (y i z : ℕ) → Moving es y i z → z ≤ bottom_of (entries_from 0 es) i
    → entries_from 0 es ≡ changed (entries_from 0 es) i y
unfolding changed
changed-staying es y i z m low =
    let t = entries_from 0 es in
    let lifted = λ (n : ℕ). with_entry (with_height (top_of t (i + 1) - n))
    (with_entry (with_height (n - bottom_of t i)) t i) (i + 1) in
    ap (λ b. cond b (lifted z) t) (sym (le-ltb _ _ low))
    ∙ ap (λ n. cond (nat_lt (bottom_of t i) n) (lifted n) t) m.to

-- for `close`, which has no proof file of its own
pub closed_edges : (es : List Edge) (i : ℕ) → Rises 0 es → i < length es
    → entries_from 0 (remove es i) ≡ closed (entries_from 0 es) i
closed_edges = closed-entries_from

pub rises_removed : (es : List Edge) (i : ℕ) → i < length es → Rises 0 es → Rises 0 (remove es i)
rises_removed = Rises-remove 0

-- for `change`
pub moving_to : (es : List Edge) (i y : ℕ) → Rises 0 es → i < length es
    → Moving es y i (change_top (entries_from 0 es) i y)
moving_to es i y rising within =
    moving es y i (change_top (entries_from 0 es) i y) rising within
    (λ more. change_top-below es i y no_edge rising more) (λ end. change_top-last es i y end)

pub changed_up : (es : List Edge) (i y : ℕ) (d : Edge) → Rises 0 es → i < length es
    → bottom_of (entries_from 0 es) i < change_top (entries_from 0 es) i y
    → entries_from 0 (set es i (record { viewer = (get_or es i d).viewer; top = change_top (entries_from 0 es) i y }))
    ≡ changed (entries_from 0 es) i y
changed_up es i y d rising within up =
    (changed-moving es y i (change_top (entries_from 0 es) i y) d (moving_to es i y rising within) up).0

pub rises_changed : (es : List Edge) (i y : ℕ) (d : Edge) → Rises 0 es → i < length es
    → bottom_of (entries_from 0 es) i < change_top (entries_from 0 es) i y
    → Rises 0 (set es i (record { viewer = (get_or es i d).viewer; top = change_top (entries_from 0 es) i y }))
rises_changed es i y d rising within up =
    (changed-moving es y i (change_top (entries_from 0 es) i y) d (moving_to es i y rising within) up).1

pub changed_not : (es : List Edge) (i y : ℕ) → Rises 0 es → i < length es
    → change_top (entries_from 0 es) i y ≤ bottom_of (entries_from 0 es) i
    → changed (entries_from 0 es) i y ≡ entries_from 0 es
changed_not es i y rising within low =
    sym (changed-staying es y i (change_top (entries_from 0 es) i y) (moving_to es i y rising within) low)

pub top_positive : (es : List Edge) (i : ℕ) (d : Edge) → Rises 0 es → i < length es → 0 < (get_or es i d).top
top_positive es i d rising within = (Rises-top 0 es i d rising within).0

-- with the lemmas' names as attributes can name them
pub change_top_below : (es : List Edge) (i y : ℕ) (d : Edge) → Rises 0 es → i + 1 < length es
    → change_top (entries_from 0 es) i y ≡ min (min y ROWS) ((get_or es (i + 1) d).top - 1)
change_top_below = change_top-below

pub change_top_last : (es : List Edge) (i y : ℕ) → length es ≤ i + 1 → change_top (entries_from 0 es) i y ≡ min y ROWS
change_top_last = change_top-last

-- what closes the goals of change_top
pub ruleset change_tops = (change_top_below, change_top_last, top_positive)

-- what closes the goals of Viewers::change
pub ruleset changing_steps = (changed_up, changed_not, rises_changed, common_steps)
