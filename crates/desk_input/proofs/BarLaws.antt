-- Where the scroll bar of a viewer is seen.
use Rattle.std.proofs.Common.{◌≡◌, ℕ, suc, ◌+◌, ◌-◌, ◌<◌, ◌≤◌, Bool, true, false, cond, not, nat_le, List, [], ◌∷◌}
use Rattle.std.proofs.Common.{length, refl, sym, ap, subst, ◌∙◌, arith, Some}
use Rattle.std.specs.Prelude.{◌==◌}
use Rattle.std.specs.List.{position_or_len}
use Rattle.std.proofs.lemmas.Bool.{eqb-true, lt-ltb, le-leb, lt-leb}
use Rattle.viewer_tracks.specs.declared.display.Track.{Track}
use Rattle.viewer_tracks.specs.declared.display.Track.TheVariants.{User, System}
use Rattle.viewer_tracks.specs.declared.display.TheConstants.{ROWS, COLUMNS}
use Rattle.viewer_tracks.specs.declared.edges.Edge.{Edge}
use Rattle.viewer_tracks.specs.Display.{track_at, left_of}
use Rattle.viewer_tracks.specs.Edges.{entries_from, Rises}
use Rattle.viewer_tracks.specs.Viewers.{Entry, IsTrack, bottom_of, top_of, entry_viewer, viewer_at, times_in, entry_of}
use Rattle.viewer_tracks.specs.Viewers.{lowest_reaching}
use Rattle.viewer_tracks.specs.Columns.{Columns, IsColumns, IsOnTop, shown_track, track_of, placed_bottom}
use Rattle.viewer_tracks.specs.Columns.{placed_top, stack_of, seen_at}
use Rattle.viewer_tracks.proofs.ColumnLemmas.{on_top, stack_in}
use Rattle.viewer_tracks.proofs.EdgeLemmas.{bottom_of-cons, length-entries_from, lowest_reaching-entries_from, bottom_of-le}
use Rattle.viewer_tracks.proofs.Moving.{entry_of-entries_from, placed_within}
use Rattle.viewer_tracks.proofs.PlacedLemmas.{shown_stands}
use Rattle.viewer_tracks.proofs.StackLemmas.{topmost_track}
use Rattle.viewer_tracks.proofs.TrackLemmas.{for_tracks}

abbrev place_in : List Edge → ℕ → ℕ
place_in es v = position_or_len (λ (e : Edge). e.viewer.0 == v) es

abbrev entry_on : ℕ → Edge → Entry
entry_on b e = record { viewer = e.viewer.0; height = e.top - b }

-- the least edge over a row of an entry is the one of that entry
reached : (v y b : ℕ) (es : List Edge) → Rises b es → place_in es v < length es
    → b + bottom_of (entries_from b es) (place_in es v) ≤ y
    → y < b + bottom_of (entries_from b es) (suc (place_in es v))
    → position_or_len (λ (e : Edge). nat_le (y + 1) e.top) es ≡ place_in es v
reached v y b [] rising within from before = absurd (let no : ⊥ = omega (arith, within) in no)
reached v y b (e ∷ es) rising within from before =
    let above : b < e.top = rising.0 in
    let one : 1 + place_in es v ≡ suc (place_in es v) = omega arith in
    (elim (e.viewer.0 == v) as (λ (own : Bool). cond (not own) (1 + place_in es v) 0 < length (e ∷ es)
    → b + bottom_of (entries_from b (e ∷ es)) (cond (not own) (1 + place_in es v) 0) ≤ y
    → y < b + bottom_of (entries_from b (e ∷ es)) (suc (cond (not own) (1 + place_in es v) 0))
    → cond (not (nat_le (y + 1) e.top)) (1 + position_or_len (λ (e : Edge). nat_le (y + 1) e.top) es) 0
    ≡ cond (not own) (1 + place_in es v) 0) [
      | true ↦ λ here low high.
          let first : bottom_of (entry_on b e ∷ entries_from e.top es) (suc 0)
          ≡ e.top - b + bottom_of (entries_from e.top es) 0 =
          bottom_of-cons (entry_on b e) (entries_from e.top es) 0 in
          let none : bottom_of (entries_from e.top es) 0 ≡ 0 = refl in
          let upper : y < b + bottom_of (entry_on b e ∷ entries_from e.top es) (suc 0) = high in
          ap (λ (t : Bool). cond (not t) (1 + position_or_len (λ (e : Edge). nat_le (y + 1) e.top) es) 0)
          (le-leb (y + 1) e.top (omega (arith, upper, first, none, above)))
      | false ↦ λ here low high.
          let below : bottom_of (entry_on b e ∷ entries_from e.top es) (suc (place_in es v))
          ≡ e.top - b + bottom_of (entries_from e.top es) (place_in es v) =
          bottom_of-cons (entry_on b e) (entries_from e.top es) (place_in es v) in
          let over : bottom_of (entry_on b e ∷ entries_from e.top es) (suc (suc (place_in es v)))
          ≡ e.top - b + bottom_of (entries_from e.top es) (suc (place_in es v)) =
          bottom_of-cons (entry_on b e) (entries_from e.top es) (suc (place_in es v)) in
          let lower : b + bottom_of (entry_on b e ∷ entries_from e.top es) (suc (place_in es v)) ≤ y =
          subst (λ (j : ℕ). b + bottom_of (entries_from b (e ∷ es)) j ≤ y) one low in
          let upper : y < b + bottom_of (entry_on b e ∷ entries_from e.top es) (suc (suc (place_in es v))) =
          subst (λ (j : ℕ). y < b + bottom_of (entries_from b (e ∷ es)) (suc j)) one high in
          let inside : 1 + place_in es v < length (e ∷ es) = here in
          ap (λ (t : Bool). cond (not t) (1 + position_or_len (λ (e : Edge). nat_le (y + 1) e.top) es) 0)
          (lt-leb (y + 1) e.top (omega (arith, lower, below, above)))
          ∙ ap (λ (n : ℕ). 1 + n) (reached v y e.top es rising.1 (omega (arith, inside))
          (omega (arith, lower, below, above)) (omega (arith, upper, over, above)))
    ]) within from before

its_viewer : (v b : ℕ) (es : List Edge) → place_in es v < length es
    → entry_viewer (entries_from b es) (place_in es v) ≡ Some v
its_viewer v b [] within = absurd (let no : ⊥ = omega (arith, within) in no)
its_viewer v b (e ∷ es) within =
    (elim (e.viewer.0 == v) as (λ (own : Bool). (e.viewer.0 == v) ≡ own
    → cond (not own) (1 + place_in es v) 0 < length (e ∷ es)
    → entry_viewer (entries_from b (e ∷ es)) (cond (not own) (1 + place_in es v) 0) ≡ Some v) [
      | true ↦ λ is here. ap (λ (n : ℕ). Some n) (eqb-true e.viewer.0 v is)
      | false ↦ λ is here.
          let one : 1 + place_in es v ≡ suc (place_in es v) = omega arith in
          let inside : 1 + place_in es v < length (e ∷ es) = here in
          ap (entry_viewer (entries_from b (e ∷ es))) one ∙ its_viewer v e.top es (omega (arith, inside))
    ]) refl within

-- What holds of a track in which a viewer stands: a row of its entry is one of the display, and there it is seen.
record IsSeen (t : List Entry) (v y : ℕ) : Type 0 where
  seen : viewer_at t y ≡ Some v
  top : top_of t (entry_of t v) ≤ ROWS

seen_edges : (v y : ℕ) (es : List Edge) → Rises 0 es → 0 < times_in v (entries_from 0 es)
    → bottom_of (entries_from 0 es) (entry_of (entries_from 0 es) v) ≤ y
    → y < top_of (entries_from 0 es) (entry_of (entries_from 0 es) v) → IsSeen (entries_from 0 es) v y
unfolding viewer_at
seen_edges v y es rising some from before =
    let t = entries_from 0 es in
    let within = placed_within v es some in
    let own = entry_of-entries_from v 0 es in
    let many = length-entries_from 0 es in
    let ends : top_of t (place_in es v) ≡ bottom_of t (place_in es v + 1) =
    ap (λ (b : Bool). cond b (bottom_of t (place_in es v + 1)) ROWS)
    (lt-ltb (place_in es v) (length t) (omega (arith, within, many))) in
    let over : bottom_of t (place_in es v + 1) ≡ bottom_of t (suc (place_in es v)) =
    ap (bottom_of t) (let e : place_in es v + 1 ≡ suc (place_in es v) = omega arith in e) in
    let low = ap (bottom_of t) own in
    let high = ap (top_of t) own in
    let row : lowest_reaching t (y + 1) ≡ place_in es v =
    lowest_reaching-entries_from es (y + 1) rising
    ∙ reached v y 0 es rising within (omega (arith, from, low)) (omega (arith, before, high, ends, over)) in
    let fits = bottom_of-le es (suc (place_in es v)) rising (omega (arith, within)) in
    record {
      seen = ap (entry_viewer t) row ∙ its_viewer v 0 es within;
      top = omega (arith, high, ends, over, fits);
    }

seen_track : (t : List Entry) (v y : ℕ) → IsTrack t → 0 < times_in v t → bottom_of t (entry_of t v) ≤ y
    → y < top_of t (entry_of t v) → IsSeen t v y
seen_track t v y track = for_tracks (λ (t : List Entry). 0 < times_in v t → bottom_of t (entry_of t v) ≤ y
    → y < top_of t (entry_of t v) → IsSeen t v y) (seen_edges v y) t track

track_at_left : (k : Track) → track_at (left_of k) ≡ k
track_at_left User = refl
track_at_left System = refl

pub left_within : (k : Track) → left_of k < COLUMNS
left_within User = omega arith
left_within System = omega arith

-- A row of a viewer is one of the display, and at its left end the viewer is seen.
pub record IsSeenAt (c : Columns) (v y : ℕ) : Type 0 where
  pub seen : seen_at c (left_of (track_of c v)) y ≡ Some v
  pub top : placed_top c v ≤ ROWS

pub seen_left : (c : Columns) (v y : ℕ) → IsColumns c → IsOnTop v c → placed_bottom c v ≤ y → y < placed_top c v
    → IsSeenAt c v y
seen_left c v y sound top from before =
    let k = track_of c v in
    let t = shown_track c k in
    let own = shown_stands c v sound top in
    let low = ap (λ (t : List Entry). bottom_of t (entry_of t v)) own in
    let high = ap (λ (t : List Entry). top_of t (entry_of t v)) own in
    let is = seen_track t v y (topmost_track (stack_of c k) (stack_in c k sound)) (on_top c v sound top)
    (omega (arith, from, low)) (omega (arith, before, high)) in
    record {
      seen = ap (λ (k : Track). viewer_at (shown_track c k) y) (track_at_left k) ∙ is.seen;
      top = (let fits = is.top in omega (arith, high, fits));
    }

-- at any column of its track it is
pub seen_across : (c : Columns) (v x y : ℕ) → IsColumns c → IsOnTop v c → track_at x ≡ track_of c v
    → placed_bottom c v ≤ y → y < placed_top c v → seen_at c x y ≡ Some v
seen_across c v x y sound top is from before =
    ap (λ (k : Track). viewer_at (shown_track c k) y) (is ∙ sym (track_at_left (track_of c v)))
    ∙ (seen_left c v y sound top from before).seen
