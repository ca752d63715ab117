-- Stacks: what is true of them after an edit of the topmost track, and who stands there.
use Rattle.std.proofs.Common.{◌≡◌, ℕ, suc, zero, ◌+◌, ◌-◌, ◌<◌, ◌≤◌, List, [], ◌∷◌, length, get_or, refl, ap, ◌==◌}
use Rattle.std.proofs.Common.{sym, subst, ◌∙◌, cond, arith, Some, ⊎_elim}
use Rattle.std.specs.Prelude.{All}
use Rattle.std.proofs.lemmas.Bool.{lt-ltb, le-ltb, cases_lt}
use Rattle.std.proofs.lemmas.List.{get_or-reverse}
use Rattle.std.proofs.lemmas.List.Sums.{sum_by-cons, sum_by_more_le}
use Rattle.viewer_tracks.specs.declared.display.TheConstants.{DEPTH}
use Rattle.viewer_tracks.specs.Viewers.{Entry, IsTrack, times_in, entry_of}
use Rattle.viewer_tracks.specs.Edits.{closed}
use Rattle.viewer_tracks.specs.Columns.{IsStack, topmost, with_topmost, under_topmost, track_on, track_with, times_on}
use Rattle.viewer_tracks.specs.Columns.{laid_on, closed_on, times_meant}
use Rattle.viewer_tracks.proofs.Positions.{counted}
use Rattle.viewer_tracks.proofs.TrackLemmas.{IsTrack-closed}
use Rattle.viewer_tracks.proofs.CountLemmas.{closed_one}

-- the track of a level, counted from the topmost
pub level_at : (s : List (List Entry)) (level : ℕ) → 0 < level → level ≤ length s
    → track_on s level ≡ get_or s (length s - level) []
level_at s level some within =
    let place : length s - 1 - (level - 1) ≡ length s - level = omega (arith, some, within) in
    get_or-reverse s (level - 1) [] (omega (arith, some, within)) ∙ ap (λ i. get_or s i []) place

pub level_under : (t : List Entry) (s : List (List Entry)) (level : ℕ) → 0 < level → level ≤ length s
    → track_on (t ∷ s) level ≡ track_on s level
level_under t s level some within =
    let place : length (t ∷ s) - level ≡ suc (length s - level) = omega (arith, some, within) in
    level_at (t ∷ s) level some (omega (arith, within)) ∙ ap (λ i. get_or (t ∷ s) i []) place
    ∙ sym (level_at s level some within)

pub level_topmost : (t : List Entry) (s : List (List Entry)) → track_on (t ∷ s) (length (t ∷ s)) ≡ t
level_topmost t s =
    let place : length (t ∷ s) - length (t ∷ s) ≡ 0 = omega arith in
    level_at (t ∷ s) (length (t ∷ s)) (omega arith) (omega arith) ∙ ap (λ i. get_or (t ∷ s) i []) place

-- what is true of the tracks under a topmost one
abbrev HaveViewers : List (List Entry) → Type 0
HaveViewers s = (level : ℕ) → 1 < level → level ≤ length s → 0 < length (track_on s level)

pub record CanBeCovered (s : List (List Entry)) : Type 0 where
  pub room : length s < DEPTH
  pub tracks : All IsTrack s
  pub overlays : HaveViewers s

overlays_with : (t : List Entry) (s : List (List Entry)) → (0 < length s → 0 < length t) → HaveViewers s
    → HaveViewers (t ∷ s)
overlays_with t s here rest level high within =
    ⊎_elim
    (λ above.
    let is : level ≡ length (t ∷ s) = omega (arith, above, within) in
    subst (λ (u : List Entry). 0 < length u) (sym (ap (track_on (t ∷ s)) is ∙ level_topmost t s))
    (here (omega (arith, high, is))))
    (λ below. subst (λ (u : List Entry). 0 < length u) (sym (level_under t s level (omega (arith, high)) below))
    (rest level high below))
    (cases_lt (length s) level)

overlays_under : (t : List Entry) (s : List (List Entry)) → HaveViewers (t ∷ s) → HaveViewers s
overlays_under t s all level high within =
    subst (λ (u : List Entry). 0 < length u) (level_under t s level (omega (arith, high)) within)
    (all level high (omega (arith, within)))

all_with : (t : List Entry) (s : List (List Entry)) → IsTrack t → All IsTrack s → All IsTrack (t ∷ s)
all_with t s here rest zero d within = here
all_with t s here rest (suc k) d within = rest k d (omega (arith, within))

pub under : (t : List Entry) (s : List (List Entry)) → IsStack (t ∷ s) → CanBeCovered s
under t s stack = record {
  room = omega (arith, stack.few);
  tracks = λ k d within. stack.tracks (suc k) d (omega (arith, within));
  overlays = overlays_under t s stack.overlays;
}

pub coverable : (s : List (List Entry)) → IsStack s → length s < DEPTH → CanBeCovered s
coverable s stack room = record { room = room; tracks = stack.tracks; overlays = stack.overlays }

pub covering : (t : List Entry) (s : List (List Entry)) → CanBeCovered s → IsTrack t → (0 < length s → 0 < length t)
    → IsStack (t ∷ s)
covering t s below track some = record {
  some = omega arith;
  few = omega (arith, below.room);
  tracks = all_with t s track below.tracks;
  overlays = overlays_with t s some below.overlays;
}

-- edits of the topmost track
pub topmost_track : (s : List (List Entry)) → IsStack s → IsTrack (topmost s)
topmost_track [] stack = absurd (omega (arith, stack.some))
topmost_track (t ∷ s) stack = stack.tracks 0 t (omega arith)

pub edited_stack : (s : List (List Entry)) (t : List Entry) → IsStack s → IsTrack t → 0 < length t
    → IsStack (with_topmost s t)
edited_stack [] t stack track some = absurd (omega (arith, stack.some))
edited_stack (u ∷ s) t stack track some = covering t s (under u s stack) track (λ _. some)

laid_stack : (s : List (List Entry)) (t : List Entry) → CanBeCovered s → IsTrack t → IsStack (laid_on s t)
laid_stack [] t below track = covering t [] below track (λ none. absurd (omega (arith, none)))
laid_stack (u ∷ s) [] below track = record {
  some = omega arith;
  few = omega (arith, below.room);
  tracks = below.tracks;
  overlays = below.overlays;
}
laid_stack (u ∷ s) (e ∷ t) below track = covering (e ∷ t) (u ∷ s) below track (λ _. omega arith)

pub closed_stack : (s : List (List Entry)) (v : ℕ) → IsStack s → 0 < times_in v (topmost s) → IsStack (closed_on s v)
closed_stack [] v stack some = absurd (omega (arith, stack.some))
closed_stack (t ∷ s) v stack some =
    laid_stack s (closed t (entry_of t v)) (under t s stack)
    (IsTrack-closed t (entry_of t v) (topmost_track (t ∷ s) stack) (counted (λ (e : Entry). e.viewer == v) t some))

-- who stands in a stack after an edit
pub times-with_topmost : (w : ℕ) (s : List (List Entry)) (t : List Entry) → 0 < length s
    → times_on w (with_topmost s t) + times_in w (topmost s) ≡ times_on w s + times_in w t
times-with_topmost w [] t some = absurd (omega (arith, some))
times-with_topmost w (u ∷ s) t some = omega (arith, sum_by-cons (times_in w) u s, sum_by-cons (times_in w) t s)

pub times-laid_on : (w : ℕ) (s : List (List Entry)) (t : List Entry)
    → times_on w (laid_on s t) ≡ times_in w t + times_on w s
times-laid_on w [] t = sum_by-cons (times_in w) t []
times-laid_on w (u ∷ s) [] = omega arith
times-laid_on w (u ∷ s) (e ∷ t) = sum_by-cons (times_in w) (e ∷ t) (u ∷ s)

pub times-closed_on : (w : ℕ) (s : List (List Entry)) (v : ℕ) → 0 < times_in v (topmost s)
    → times_on w (closed_on s v) + times_meant w (Some v) ≡ times_on w s
times-closed_on w [] v some = absurd (omega (arith, some))
times-closed_on w (t ∷ s) v some =
    omega (
      arith,
      sum_by-cons (times_in w) t s,
      times-laid_on w s (closed t (entry_of t v)),
      closed_one v w t some,
    )

pub topmost_times : (w : ℕ) (s : List (List Entry)) → times_in w (topmost s) ≤ times_on w s
topmost_times w [] = omega arith
topmost_times w (t ∷ s) = omega (arith, sum_by-cons (times_in w) t s)

pub level_times : (w : ℕ) (s : List (List Entry)) (level : ℕ) → 0 < level → level ≤ length s
    → times_in w (track_on s level) ≤ times_on w s
level_times w s level some within =
    omega (
      arith,
      ap (times_in w) (level_at s level some within),
      sum_by_more_le (times_in w) s (length s - level) [] (omega (arith, some, within)),
    )

-- who is on top of it
pub topmost-with_topmost : (s : List (List Entry)) (t : List Entry) → topmost (with_topmost s t) ≡ t
topmost-with_topmost [] t = refl
topmost-with_topmost (u ∷ s) t = refl

pub under-with_topmost : (s : List (List Entry)) (t : List Entry) → under_topmost (with_topmost s t) ≡ under_topmost s
under-with_topmost [] t = refl
under-with_topmost (u ∷ s) t = refl

topmost-laid_on : (w : ℕ) (s : List (List Entry)) (t : List Entry) → times_in w t ≤ times_in w (topmost (laid_on s t))
topmost-laid_on w [] t = omega arith
topmost-laid_on w (u ∷ s) [] = omega arith
topmost-laid_on w (u ∷ s) (e ∷ t) = omega arith

pub topmost-closed_on : (w : ℕ) (s : List (List Entry)) (v : ℕ) → 0 < times_in v (topmost s)
    → times_in w (topmost s) ≤ times_in w (topmost (closed_on s v)) + times_meant w (Some v)
topmost-closed_on w s v some =
    omega (
      arith,
      topmost-laid_on w (under_topmost s) (closed (topmost s) (entry_of (topmost s) v)),
      closed_one v w (topmost s) some,
    )

-- the track of a viewer
pub with_there : (v : ℕ) (t : List Entry) (s : List (List Entry)) → 0 < times_in v t → track_with v (t ∷ s) ≡ t
with_there v t s some = ap (λ b. cond b t (track_with v s)) (lt-ltb 0 (times_in v t) some)

pub with_under : (v : ℕ) (t : List Entry) (s : List (List Entry)) → times_in v t ≤ 0
    → track_with v (t ∷ s) ≡ track_with v s
with_under v t s none = ap (λ b. cond b t (track_with v s)) (le-ltb 0 (times_in v t) none)

pub with_topmost_there : (v : ℕ) (s : List (List Entry)) → 0 < times_in v (topmost s) → track_with v s ≡ topmost s
with_topmost_there v [] some = absurd (omega (arith, some))
with_topmost_there v (t ∷ s) some = with_there v t s some
