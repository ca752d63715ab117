-- Who is placed and who is shown after an edit, and where a viewer is that is seen.
use Rattle.std.proofs.Common.{◌≡◌, ℕ, ◌+◌, ◌<◌, ◌≤◌, List, ◌∷◌, refl, ap, sym, subst, ◌∙◌, arith, Option, Some, None}
use Rattle.std.specs.Prelude.{IfSome, option_map, slice_get, length}
use Rattle.std.proofs.lemmas.List.Sums.{sum_by-cons}
use Rattle.viewer_tracks.specs.declared.viewer_id.ViewerId.{ViewerId}
use Rattle.viewer_tracks.specs.declared.display.Track.{Track}
use Rattle.viewer_tracks.specs.declared.display.Track.TheVariants.{User, System}
use Rattle.viewer_tracks.specs.Display.{track_at}
use Rattle.viewer_tracks.specs.Viewers.{Entry, bottom_of, top_of, entry_viewer, viewer_at, times_in, entry_of, id_number}
use Rattle.viewer_tracks.specs.Edits.{opened, changed}
use Rattle.viewer_tracks.specs.Columns.{Columns, IsColumns, IsPlaced, IsOnTop, stack_of, with_stack, topmost}
use Rattle.viewer_tracks.specs.Columns.{with_topmost, with_shown, shown_track, track_on, whole_track, closed_on, times_on}
use Rattle.viewer_tracks.specs.Columns.{times_shown, times_meant, track_of, placed_in, StandsAt, seen_at, replaced_at}
use Rattle.viewer_tracks.specs.Columns.{times_placed, after_open, after_open_track, columns_changed, after_close}
use Rattle.viewer_tracks.proofs.Once.{times_in-changed}
use Rattle.viewer_tracks.proofs.CountLemmas.{opened_counts, seen_in, there_at}
use Rattle.viewer_tracks.proofs.StackLemmas.{topmost_track, topmost_times, topmost-with_topmost, topmost-closed_on}
use Rattle.viewer_tracks.proofs.StackLemmas.{times-with_topmost, times-closed_on, level_times}
use Rattle.viewer_tracks.proofs.ColumnLemmas.{stack_in, times-with_stack, times-whole_track, shown_in, on_top}
use Rattle.viewer_tracks.proofs.ColumnLemmas.{placed_on_top}

-- a viewer changes its height in the track that shows it, which has as many of each viewer then
abbrev changed_on : Columns → ℕ → ℕ → List Entry
changed_on c v y =
    let t = shown_track c (track_of c v) in changed t (entry_of t v) y

changed_counts : (c : Columns) (v y w : ℕ) → times_in w (changed_on c v y) ≡ times_in w (shown_track c (track_of c v))
changed_counts c v y w =
    let t = shown_track c (track_of c v) in times_in-changed w t (entry_of t v) y

-- who is placed
edited_places : (c : Columns) (k : Track) (t : List Entry) (w : ℕ) → IsColumns c
    → times_placed w (with_shown c k t) + times_in w (shown_track c k) ≡ times_placed w c + times_in w t
edited_places c k t w sound =
    let s = stack_of c k in
    let stack = stack_in c k sound in
    omega (arith, times-with_stack w c k (with_topmost s t), times-with_topmost w s t stack.some)

pub open_places : (c : Columns) (v x y w : ℕ) → IsColumns c
    → times_placed w (after_open c v x y) + times_meant w (replaced_at c x y) ≡ times_placed w c + times_meant w
    (Some v)
unfolding after_open
open_places c v x y w sound = omega (
  arith,
  edited_places c (track_at x) (opened (shown_track c (track_at x)) v y) w sound,
  opened_counts v w (shown_track c (track_at x)) y _ refl,
)

pub cover_places : (c : Columns) (v x w : ℕ)
    → times_placed w (after_open_track c v x) ≡ times_placed w c + times_meant w (Some v)
unfolding after_open_track
cover_places c v x w =
    let k = track_at x in
    let s = stack_of c k in
    omega (
      arith,
      times-with_stack w c k (whole_track v ∷ s),
      sum_by-cons (times_in w) (whole_track v) s,
      times-whole_track v w,
    )

pub change_places : (c : Columns) (v y w : ℕ) → IsColumns c → IsOnTop v c
    → times_placed w (columns_changed c v y) ≡ times_placed w c
unfolding columns_changed
change_places c v y w sound top =
    omega (arith, edited_places c (track_of c v) (changed_on c v y) w sound, changed_counts c v y w)

pub close_places : (c : Columns) (v w : ℕ) → IsColumns c → IsOnTop v c
    → times_placed w (after_close c v) + times_meant w (Some v) ≡ times_placed w c
unfolding after_close
close_places c v w sound top =
    let k = track_of c v in
    let s = stack_of c k in
    omega (arith, times-with_stack w c k (closed_on s v), times-closed_on w s v (on_top c v sound top))

-- who is shown
shown-with_stack : (w : ℕ) (c : Columns) (k : Track) (s : List (List Entry))
    → times_shown w (with_stack c k s) + times_in w (shown_track c k) ≡ times_shown w c + times_in w (topmost s)
shown-with_stack w c User s = omega arith
shown-with_stack w c System s = omega arith

edited_shows : (c : Columns) (k : Track) (t : List Entry) (w : ℕ)
    → times_shown w (with_shown c k t) + times_in w (shown_track c k) ≡ times_shown w c + times_in w t
edited_shows c k t w =
    let s = stack_of c k in
    omega (arith, shown-with_stack w c k (with_topmost s t), ap (times_in w) (topmost-with_topmost s t))

pub open_shows : (c : Columns) (v x y w : ℕ) → IsColumns c
    → times_shown w (after_open c v x y) + times_meant w (replaced_at c x y) ≡ times_shown w c + times_meant w (Some v)
unfolding after_open
open_shows c v x y w sound = omega (
  arith,
  edited_shows c (track_at x) (opened (shown_track c (track_at x)) v y) w,
  opened_counts v w (shown_track c (track_at x)) y _ refl,
)

pub cover_shows : (c : Columns) (v x w : ℕ)
    → times_shown w (after_open_track c v x) + times_in w (shown_track c (track_at x))
    ≡ times_shown w c + times_meant w (Some v)
unfolding after_open_track
cover_shows c v x w =
    let k = track_at x in
    omega (arith, shown-with_stack w c k (whole_track v ∷ stack_of c k), times-whole_track v w)

pub change_shows : (c : Columns) (v y w : ℕ) → IsColumns c → IsOnTop v c
    → times_shown w (columns_changed c v y) ≡ times_shown w c
unfolding columns_changed
change_shows c v y w sound top =
    omega (arith, edited_shows c (track_of c v) (changed_on c v y) w, changed_counts c v y w)

pub close_shows : (c : Columns) (v w : ℕ) → IsColumns c → IsOnTop v c
    → times_shown w c ≤ times_shown w (after_close c v) + times_meant w (Some v)
unfolding after_close
close_shows c v w sound top =
    let k = track_of c v in
    let s = stack_of c k in
    omega (arith, shown-with_stack w c k (closed_on s v), topmost-closed_on w s v (on_top c v sound top))

pub shown_placed : (c : Columns) (v : ℕ) → times_shown v c ≤ times_placed v c
shown_placed c v = omega (arith, topmost_times v c.user, topmost_times v c.system)

pub shown_stands : (c : Columns) (v : ℕ) → IsColumns c → IsOnTop v c → placed_in c v ≡ shown_track c (track_of c v)
shown_stands c v sound top = placed_on_top c v (track_of c v) sound (on_top c v sound top)

-- a viewer that is seen
is_shown : (c : Columns) (v : ℕ) (k : Track) → 0 < times_in v (shown_track c k) → IsOnTop v c
is_shown c v User some = omega (arith, some)
is_shown c v System some = omega (arith, some)

once_shown : (c : Columns) (v : ℕ) (k : Track) → IsColumns c → times_in v (shown_track c k) ≤ 1
once_shown c v User sound = omega (arith, topmost_times v c.user, sound.once v)
once_shown c v System sound = omega (arith, topmost_times v c.system, sound.once v)

pub seen_placed : (c : Columns) (v x y : ℕ) → IsColumns c → seen_at c x y ≡ Some v → StandsAt c v x y
seen_placed c v x y sound is =
    let k = track_at x in
    let seen = seen_in (shown_track c k) v y (topmost_track (stack_of c k) (stack_in c k sound)) is in
    let one = once_shown c v k sound in
    let own = placed_on_top c v k sound seen.some in
    record {
      placed = is_shown c v k seen.some;
      track = shown_in c v k sound seen.some;
      from = omega (arith, seen.from one, ap (λ (t : List Entry). bottom_of t (entry_of t v)) own);
      before = omega (arith, seen.before one, ap (λ (t : List Entry). top_of t (entry_of t v)) own);
    }

-- for `at`, whose result is the viewer that is seen in the track k
pub seen_stands : (c d : Columns) (k : Track) (found : Option ViewerId) (x y : ℕ) → IsColumns c → c ≡ d
    → k ≡ track_at x → id_number found ≡ viewer_at (shown_track d k) y → IfSome found (λ v. StandsAt d v.0 x y)
seen_stands c d k None x y sound whole at is = tt
seen_stands c d k (Some v) x y sound whole at is =
    seen_placed d v.0 x y (subst IsColumns whole sound)
    (sym (is ∙ ap (λ (k : Track). viewer_at (shown_track d k) y) at))

-- for `viewer_in`: a viewer that has a place in a shown track is shown
pub nth_shown : (c : Columns) (k : Track) (found : Option ViewerId) (i : ℕ)
    → id_number found ≡ entry_viewer (shown_track c k) i → IfSome found (λ v. IsOnTop v.0 c)
nth_shown c k None i is = tt
nth_shown c k (Some v) i is = is_shown c v.0 k (there_at v.0 (shown_track c k) i is)

-- for `entry_in`: a viewer that the track of a level has is placed
stands_in : (c : Columns) (v : ℕ) (k : Track) → 0 < times_on v (stack_of c k) → IsPlaced v c
stands_in c v User some = omega (arith, some)
stands_in c v System some = omega (arith, some)

pub entry_placed : (c : Columns) (k : Track) (level i : ℕ) (e : Entry) → 0 < level → level ≤ length (stack_of c k)
    → slice_get (track_on (stack_of c k) level) i ≡ Some e → IsPlaced e.viewer c
entry_placed c k level i e some within is =
    let here = there_at e.viewer (track_on (stack_of c k) level) i
    (sym (ap (λ (o : Option Entry). option_map (λ (e : Entry). e.viewer) o) is)) in
    stands_in c e.viewer k (omega (arith, here, level_times e.viewer (stack_of c k) level some within))
