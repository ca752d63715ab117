-- A viewer stands at most once on the display, whatever is opened, moved or closed.
use Rattle.std.proofs.Common.{◌≡◌, ℕ, suc, zero, ◌+◌, ◌-◌, ◌≤◌, Bool, true, false, cond, ◌==◌, nat_lt, List, [], ◌∷◌}
use Rattle.std.proofs.Common.{refl, ap, sym, ◌∙◌, arith}
use Rattle.std.specs.Prelude.{insert, remove}
use Rattle.std.proofs.lemmas.List.Sums.{sum_by-cons, sum_by-insert}
use Rattle.std.proofs.lemmas.Bool.{eqb-true}
use Rattle.viewer_tracks.specs.Viewers.{Entry, bottom_of, top_of, times_in}
use Rattle.viewer_tracks.specs.Edits.{with_entry, with_height, entry_with_viewer, takes_place, open_entry, open_top, opened}
use Rattle.viewer_tracks.specs.Edits.{change_top, changed, closed}

-- one more where the viewers are the same
abbrev pub one_if : ℕ → ℕ → ℕ
one_if v w = cond (v == w) 1 0

pub times_in-cons : (w : ℕ) (e : Entry) (t : List Entry) → times_in w (e ∷ t) ≡ one_if e.viewer w + times_in w t
times_in-cons w e t = sum_by-cons (λ (x : Entry). one_if x.viewer w) e t

-- a change of a height
pub times_in-with_height : (w : ℕ) (h : Entry → ℕ) (t : List Entry) (i : ℕ)
    → times_in w (with_entry (λ e. with_height (h e) e) t i) ≡ times_in w t
times_in-with_height w h [] i = refl
times_in-with_height w h (e ∷ t) zero = times_in-cons w (with_height (h e) e) t ∙ sym (times_in-cons w e t)
times_in-with_height w h (e ∷ t) (suc i) =
    times_in-cons w e (with_entry (λ x. with_height (h x) x) t i)
    ∙ ap (λ n. one_if e.viewer w + n) (times_in-with_height w h t i) ∙ sym (times_in-cons w e t)

times_in-with_viewer : (v w : ℕ) (t : List Entry) (i : ℕ)
    → times_in w (with_entry (entry_with_viewer v) t i) ≤ times_in w t + one_if v w
times_in-with_viewer v w [] i = omega arith
times_in-with_viewer v w (e ∷ t) zero =
    let after = times_in-cons w (entry_with_viewer v e) t in
    let before = times_in-cons w e t in
    omega arith
times_in-with_viewer v w (e ∷ t) (suc i) =
    let after = times_in-cons w e (with_entry (entry_with_viewer v) t i) in
    let before = times_in-cons w e t in
    let rest = times_in-with_viewer v w t i in
    omega arith

times_in-remove : (w : ℕ) (t : List Entry) (i : ℕ) → times_in w (remove t i) ≤ times_in w t
times_in-remove w [] zero = omega arith
times_in-remove w [] (suc i) = omega arith
times_in-remove w (e ∷ t) zero = let before = times_in-cons w e t in omega arith
times_in-remove w (e ∷ t) (suc i) =
    let after = times_in-cons w e (remove t i) in
    let before = times_in-cons w e t in
    let rest = times_in-remove w t i in
    omega arith

pub times_in-opened : (v w : ℕ) (t : List Entry) (y : ℕ) → times_in w (opened t v y) ≤ times_in w t + one_if v w
unfolding opened
times_in-opened v w t y =
    let i = open_entry t y in
    let h = open_top t y - bottom_of t i in
    let lower = with_entry (λ e. with_height (e.height - h) e) t i in
    let at : Entry = record { viewer = v; height = h } in
    elim (takes_place t i (open_top t y)) as
    (λ b. times_in w (cond b (with_entry (entry_with_viewer v) t i) (insert lower i at)) ≤ times_in w t + one_if v w) [
      | true ↦ times_in-with_viewer v w t i
      | false ↦ (
          let more = sum_by-insert (λ (x : Entry). one_if x.viewer w) lower i at in
          let same = times_in-with_height w (λ e. e.height - h) t i in
          omega arith)
    ]

pub times_in-changed : (w : ℕ) (t : List Entry) (i y : ℕ) → times_in w (changed t i y) ≡ times_in w t
unfolding changed
times_in-changed w t i y =
    let z = change_top t i y in
    let first = with_entry (with_height (z - bottom_of t i)) t i in
    let k = top_of t (i + 1) - z in
    elim (nat_lt (bottom_of t i) z) as (λ b. times_in w (cond b (with_entry (with_height k) first (i + 1)) t)
    ≡ times_in w t) [
      | true ↦ times_in-with_height w (λ _. k) first (i + 1) ∙ times_in-with_height w (λ _. z - bottom_of t i) t i
      | false ↦ refl
    ]

pub times_in-closed : (w : ℕ) (t : List Entry) (i : ℕ) → times_in w (closed t i) ≤ times_in w t
unfolding closed
times_in-closed w t i =
    let h = top_of t i - bottom_of t i in
    let fewer = times_in-remove w (with_entry (λ e. with_height (e.height + h) e) t (i + 1)) i in
    let same = times_in-with_height w (λ e. e.height + h) t (i + 1) in
    omega arith

-- a viewer that is new stands once afterwards
pub once_opened : (v w : ℕ) (f : ℕ → ℕ) → f v ≡ 0 → f w ≤ 1 → f w + one_if v w ≤ 1
once_opened v w f fresh once = at (v == w) refl where
  at : (b : Bool) → (v == w) ≡ b → f w + cond b 1 0 ≤ 1
  at true same =
      let is : f v ≡ f w = ap f (eqb-true v w same) in
      omega arith
  at false other = omega arith
