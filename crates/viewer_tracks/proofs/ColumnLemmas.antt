-- What an edit of the track that a column shows makes of both columns.
use Rattle.std.proofs.Common.{◌≡◌, ℕ, suc, zero, ◌+◌, ◌<◌, ◌≤◌, List, [], ◌∷◌, length, refl, ap, sym, subst, ◌∙◌, cond, not, ◌==◌}
use Rattle.std.proofs.Common.{◌-◌, min, nat_lt, true, false, arith, ⊎_elim}
use Rattle.std.specs.Prelude.{All}
use Rattle.std.proofs.lemmas.Bool.{lt-ltb, le-ltb, cases_lt, eq-eqb, false≢true}
use Rattle.std.proofs.lemmas.List.Sums.{sum_by-cons}
use Rattle.viewer_tracks.specs.declared.display.Track.{Track}
use Rattle.viewer_tracks.specs.declared.display.Track.TheVariants.{User, System}
use Rattle.viewer_tracks.specs.declared.display.TheConstants.{ROWS, DEPTH}
use Rattle.viewer_tracks.specs.Display.{track_at}
use Rattle.viewer_tracks.specs.Viewers.{Entry, IsTrack, times_in, entry_of}
use Rattle.viewer_tracks.specs.Edits.{opened, changed, closed}
use Rattle.viewer_tracks.specs.Columns.{Columns, IsColumns, IsStack, IsPlaced, IsOnTop, stack_of, with_stack, topmost}
use Rattle.viewer_tracks.specs.Columns.{with_topmost, under_topmost, shown_track, with_shown, times_on, times_placed}
use Rattle.viewer_tracks.specs.Columns.{whole_track, laid_on, closed_on, covered_of, track_of, track_with, placed_in}
use Rattle.viewer_tracks.specs.Columns.{after_open, after_open_track, columns_changed, after_close}
use Rattle.viewer_tracks.proofs.Positions.{counted}
use Rattle.viewer_tracks.proofs.Once.{one_if, times_in-cons, times_in-opened, times_in-changed, once_opened}
use Rattle.viewer_tracks.proofs.TrackLemmas.{IsTrack-opened, IsTrack-changed}
use Rattle.viewer_tracks.proofs.CountLemmas.{some_opened, some_changed}
use Rattle.viewer_tracks.proofs.StackLemmas.{coverable, covering, topmost_track, edited_stack, closed_stack}
use Rattle.viewer_tracks.proofs.StackLemmas.{times-with_topmost, times-closed_on, topmost_times}
use Rattle.viewer_tracks.proofs.StackLemmas.{under-with_topmost, with_topmost_there}

abbrev pub columns : List (List Entry) → List (List Entry) → Columns
columns u s = record { user = u; system = s }

-- columns with another stack on one side
pub stack_in : (c : Columns) (k : Track) → IsColumns c → IsStack (stack_of c k)
stack_in c User sound = sound.user
stack_in c System sound = sound.system

pub times-with_stack : (w : ℕ) (c : Columns) (k : Track) (s : List (List Entry))
    → times_placed w (with_stack c k s) + times_on w (stack_of c k) ≡ times_placed w c + times_on w s
times-with_stack w c User s = omega arith
times-with_stack w c System s = omega arith

with_stack_sound : (c : Columns) (k : Track) (s : List (List Entry)) → IsColumns c → IsStack s
    → ((w : ℕ) → times_placed w (with_stack c k s) ≤ 1)
    → IsColumns (with_stack c k s)
with_stack_sound c User s sound stack once = record { user = stack; system = sound.system; once = once }
with_stack_sound c System s sound stack once = record { user = sound.user; system = stack; once = once }

-- where a viewer stands
pub track_of_user : (u s : List (List Entry)) (v : ℕ) → 0 < times_on v u → track_of (columns u s) v ≡ User
unfolding track_of
track_of_user u s v some = ap (λ b. cond b User System) (lt-ltb 0 (times_on v u) some)

pub track_of_system : (u s : List (List Entry)) (v : ℕ) → times_on v u ≤ 0 → track_of (columns u s) v ≡ System
unfolding track_of
track_of_system u s v none = ap (λ b. cond b User System) (le-ltb 0 (times_on v u) none)

in_its_column : (c : Columns) (v : ℕ) (k : Track) → IsColumns c → 0 < times_on v (stack_of c k) → track_of c v ≡ k
in_its_column c v User sound some = track_of_user c.user c.system v some
in_its_column c v System sound some = track_of_system c.user c.system v (omega (arith, sound.once v, some))

pub shown_in : (c : Columns) (v : ℕ) (k : Track) → IsColumns c → 0 < times_in v (shown_track c k) → track_of c v ≡ k
shown_in c v k sound some = in_its_column c v k sound (omega (arith, some, topmost_times v (stack_of c k)))

pub on_top : (c : Columns) (v : ℕ) → IsColumns c → IsOnTop v c → 0 < times_in v (shown_track c (track_of c v))
on_top c v sound top =
    ⊎_elim
    (λ some. subst (λ (k : Track). 0 < times_in v (shown_track c k)) (sym (shown_in c v User sound some)) some)
    (λ none.
    let some : 0 < times_in v (shown_track c System) = omega (arith, top, none) in
    subst (λ (k : Track). 0 < times_in v (shown_track c k)) (sym (shown_in c v System sound some)) some)
    (cases_lt 0 (times_in v (shown_track c User)))

pub placed_on_top : (c : Columns) (v : ℕ) (k : Track) → IsColumns c → 0 < times_in v (shown_track c k)
    → placed_in c v ≡ shown_track c k
placed_on_top c v k sound some =
    ap (λ (k : Track). track_with v (stack_of c k)) (shown_in c v k sound some)
    ∙ with_topmost_there v (stack_of c k) some

-- for `column_of`
pub found_user : (c d : Columns) (v : ℕ) → IsColumns c → c ≡ d → 0 < times_in v (shown_track c User)
    → (User ≡ track_of d v) × (0 < times_in v (shown_track d User))
found_user c d v sound whole some =
    (sym (shown_in d v User (subst IsColumns whole sound) here), here) where
      here : 0 < times_in v (shown_track d User)
      here = subst (λ (c : Columns). 0 < times_in v (shown_track c User)) whole some

pub found_system : (c d : Columns) (v : ℕ) → IsColumns c → c ≡ d → IsOnTop v d
    → (0 < times_in v (shown_track c User) → false ≡ true)
    → (System ≡ track_of d v) × (0 < times_in v (shown_track d System))
found_system c d v sound whole top other =
    (sym (shown_in d v System (subst IsColumns whole sound) here), here) where
      none : times_in v (shown_track d User) ≤ 0
      none =
          ⊎_elim
          (λ some. absurd (false≢true (other (subst (λ (c : Columns). 0 < times_in v (shown_track c User)) (sym whole) some))))
          (λ low. low) (cases_lt 0 (times_in v (shown_track d User)))

      here : 0 < times_in v (shown_track d System)
      here = omega (arith, top, none)

nowhere : (c : Columns) (v : ℕ) → ¬ IsPlaced v c → times_placed v c ≡ 0
nowhere c v fresh = ⊎_elim (λ here. absurd (fresh here)) (λ none. omega (arith, none)) (cases_lt 0 (times_placed v c))

-- an edit on one side
pub opened_in : (c : Columns) (k : Track) (v y : ℕ) → IsColumns c → ¬ IsPlaced v c
    → IsColumns (with_shown c k (opened (shown_track c k) v y))
opened_in c k v y sound fresh =
    let s = stack_of c k in
    let t = opened (topmost s) v y in
    let stack = stack_in c k sound in
    let track = topmost_track s stack in
    with_stack_sound c k (with_topmost s t) sound
    (edited_stack s t stack (IsTrack-opened (topmost s) v y track) (some_opened (topmost s) v y track))
    (λ w. omega (
      arith,
      times-with_stack w c k (with_topmost s t),
      times-with_topmost w s t stack.some,
      times_in-opened v w (topmost s) y,
      once_opened v w (λ x. times_placed x c) (nowhere c v fresh) (sound.once w),
    ))

whole_is_track : (v : ℕ) → IsTrack (whole_track v)
whole_is_track v = record { some = one v; fits = omega arith } where
  one : (v : ℕ) → All (λ (e : Entry). 0 < e.height) (whole_track v)
  one v zero d within = omega arith
  one v (suc k) d within = absurd (omega (arith, within))

pub times-whole_track : (v w : ℕ) → times_in w (whole_track v) ≡ one_if v w
times-whole_track v w = omega (arith, times_in-cons w (record { viewer = v; height = ROWS }) [])

pub covered_in : (c : Columns) (k : Track) (v : ℕ) → IsColumns c → ¬ IsPlaced v c → length (stack_of c k) < DEPTH
    → IsColumns (with_stack c k (whole_track v ∷ stack_of c k))
covered_in c k v sound fresh room =
    let s = stack_of c k in
    with_stack_sound c k (whole_track v ∷ s) sound
    (covering (whole_track v) s (coverable s (stack_in c k sound) room) (whole_is_track v) (λ _. omega arith))
    (λ w. omega (
      arith,
      times-with_stack w c k (whole_track v ∷ s),
      sum_by-cons (times_in w) (whole_track v) s,
      times-whole_track v w,
      once_opened v w (λ x. times_placed x c) (nowhere c v fresh) (sound.once w),
    ))

pub changed_in : (c : Columns) (k : Track) (v y : ℕ) → IsColumns c → 0 < times_in v (shown_track c k)
    → IsColumns (with_shown c k (changed (shown_track c k) (entry_of (shown_track c k) v) y))
changed_in c k v y sound here =
    let s = stack_of c k in
    let i = entry_of (topmost s) v in
    let t = changed (topmost s) i y in
    let stack = stack_in c k sound in
    let within = counted (λ (e : Entry). e.viewer == v) (topmost s) here in
    with_stack_sound c k (with_topmost s t) sound
    (edited_stack s t stack (IsTrack-changed (topmost s) i y (topmost_track s stack) within)
    (some_changed (topmost s) v y here))
    (λ w. omega (
      arith,
      times-with_stack w c k (with_topmost s t),
      times-with_topmost w s t stack.some,
      times_in-changed w (topmost s) i y,
      sound.once w,
    ))

pub closed_in : (c : Columns) (k : Track) (v : ℕ) → IsColumns c → 0 < times_in v (shown_track c k)
    → IsColumns (with_stack c k (closed_on (stack_of c k) v))
closed_in c k v sound here =
    let s = stack_of c k in
    with_stack_sound c k (closed_on s v) sound (closed_stack s v (stack_in c k sound) here)
    (λ w. omega (arith, times-with_stack w c k (closed_on s v), times-closed_on w s v here, sound.once w))

-- the columns after an edit are those of the edit on one side
pub after_open_user : (u s : List (List Entry)) (v x y : ℕ) → track_at x ≡ User
    → after_open (columns u s) v x y ≡ columns (with_topmost u (opened (topmost u) v y)) s
unfolding after_open
after_open_user u s v x y at = ap (λ (k : Track). with_shown (columns u s) k (opened (shown_track (columns u s) k) v y)) at

pub after_open_system : (u s : List (List Entry)) (v x y : ℕ) → track_at x ≡ System
    → after_open (columns u s) v x y ≡ columns u (with_topmost s (opened (topmost s) v y))
unfolding after_open
after_open_system u s v x y at = ap (λ (k : Track). with_shown (columns u s) k (opened (shown_track (columns u s) k) v y)) at

pub after_cover_user : (u s : List (List Entry)) (v x : ℕ) → track_at x ≡ User
    → after_open_track (columns u s) v x ≡ columns (whole_track v ∷ u) s
unfolding after_open_track
after_cover_user u s v x at =
    ap (λ (k : Track). with_stack (columns u s) k (whole_track v ∷ stack_of (columns u s) k)) at

pub after_cover_system : (u s : List (List Entry)) (v x : ℕ) → track_at x ≡ System
    → after_open_track (columns u s) v x ≡ columns u (whole_track v ∷ s)
unfolding after_open_track
after_cover_system u s v x at =
    ap (λ (k : Track). with_stack (columns u s) k (whole_track v ∷ stack_of (columns u s) k)) at

pub after_change_user : (u s : List (List Entry)) (v y : ℕ) → track_of (columns u s) v ≡ User
    → columns_changed (columns u s) v y ≡ columns (with_topmost u (changed (topmost u) (entry_of (topmost u) v) y)) s
unfolding columns_changed
after_change_user u s v y at =
    ap (λ (k : Track).
    with_shown (columns u s) k (changed (shown_track (columns u s) k) (entry_of (shown_track (columns u s) k) v) y)) at

pub after_change_system : (u s : List (List Entry)) (v y : ℕ) → track_of (columns u s) v ≡ System
    → columns_changed (columns u s) v y ≡ columns u (with_topmost s (changed (topmost s) (entry_of (topmost s) v) y))
unfolding columns_changed
after_change_system u s v y at =
    ap (λ (k : Track).
    with_shown (columns u s) k (changed (shown_track (columns u s) k) (entry_of (shown_track (columns u s) k) v) y)) at

pub after_close_user : (u s : List (List Entry)) (v : ℕ) → track_of (columns u s) v ≡ User
    → after_close (columns u s) v ≡ columns (closed_on u v) s
unfolding after_close
after_close_user u s v at = ap (λ (k : Track). with_stack (columns u s) k (closed_on (stack_of (columns u s) k) v)) at

pub after_close_system : (u s : List (List Entry)) (v : ℕ) → track_of (columns u s) v ≡ System
    → after_close (columns u s) v ≡ columns u (closed_on s v)
unfolding after_close
after_close_system u s v at = ap (λ (k : Track). with_stack (columns u s) k (closed_on (stack_of (columns u s) k) v)) at

-- what is known of the columns that a call was handed, said of those inside
room_in : (c d : Columns) (k j : Track) → c ≡ d → k ≡ j → length (stack_of d j) < DEPTH
    → length (stack_of c k) < DEPTH
room_in c d k j whole at room =
    subst (λ (k : Track). length (stack_of c k) < DEPTH) (sym at)
    (subst (λ (c : Columns). length (stack_of c j) < DEPTH) (sym whole) room)

pub there_in : (c d : Columns) (k j : Track) (v : ℕ) → c ≡ d → k ≡ j → 0 < times_in v (shown_track d j)
    → 0 < times_in v (shown_track c k)
there_in c d k j v whole at some =
    subst (λ (k : Track). 0 < times_in v (shown_track c k)) (sym at)
    (subst (λ (c : Columns). 0 < times_in v (shown_track c j)) (sym whole) some)

-- what closes the goals of Tracks::open, open_track, change and close
pub ruleset after_opens = (after_open_user, after_open_system)

pub ruleset after_covers = (after_cover_user, after_cover_system)

pub ruleset after_changes = (after_change_user, after_change_system)

pub ruleset after_closes = (after_close_user, after_close_system)

-- for their invariants: columns of which one stack was made new
pub opens : (c d : Columns) (k : Track) (v y : ℕ) (new : List (List Entry)) → IsColumns c → c ≡ d → ¬ IsPlaced v d
    → new ≡ with_topmost (stack_of c k) (opened (shown_track c k) v y) → IsColumns (with_stack c k new)
opens c d k v y new sound whole fresh is =
    subst (λ (s : List (List Entry)). IsColumns (with_stack c k s)) (sym is)
    (opened_in c k v y sound (subst (λ (c : Columns). ¬ IsPlaced v c) (sym whole) fresh))

pub covers : (c d : Columns) (k j : Track) (v : ℕ) (new : List (List Entry)) → IsColumns c → c ≡ d → ¬ IsPlaced v d
    → k ≡ j → length (stack_of d j) < DEPTH → new ≡ whole_track v ∷ stack_of c k → IsColumns (with_stack c k new)
covers c d k j v new sound whole fresh at room is =
    subst (λ (s : List (List Entry)). IsColumns (with_stack c k s)) (sym is)
    (covered_in c k v sound (subst (λ (c : Columns). ¬ IsPlaced v c) (sym whole) fresh) (room_in c d k j whole at room))

pub changes : (c d : Columns) (k j : Track) (v y : ℕ) (new : List (List Entry)) → IsColumns c → c ≡ d → k ≡ j
    → 0 < times_in v (shown_track d j)
    → new ≡ with_topmost (stack_of c k) (changed (shown_track c k) (entry_of (shown_track c k) v) y)
    → IsColumns (with_stack c k new)
changes c d k j v y new sound whole at some is =
    subst (λ (s : List (List Entry)). IsColumns (with_stack c k s)) (sym is)
    (changed_in c k v y sound (there_in c d k j v whole at some))

pub closes : (c d : Columns) (k j : Track) (v : ℕ) (new : List (List Entry)) → IsColumns c → c ≡ d → k ≡ j
    → 0 < times_in v (shown_track d j) → new ≡ closed_on (stack_of c k) v → IsColumns (with_stack c k new)
closes c d k j v new sound whole at some is =
    subst (λ (s : List (List Entry)). IsColumns (with_stack c k s)) (sym is)
    (closed_in c k v sound (there_in c d k j v whole at some))

-- edits keep what is true of columns
pub open_keeps : (c : Columns) (v x y : ℕ) → IsColumns c → ¬ IsPlaced v c → IsColumns (after_open c v x y)
unfolding after_open
open_keeps c v x y sound fresh = opened_in c (track_at x) v y sound fresh

pub cover_keeps : (c : Columns) (v x : ℕ) → IsColumns c → ¬ IsPlaced v c → length (stack_of c (track_at x)) < DEPTH
    → IsColumns (after_open_track c v x)
unfolding after_open_track
cover_keeps c v x sound fresh room = covered_in c (track_at x) v sound fresh room

pub change_keeps : (c : Columns) (v y : ℕ) → IsColumns c → IsOnTop v c → IsColumns (columns_changed c v y)
unfolding columns_changed
change_keeps c v y sound top = changed_in c (track_of c v) v y sound (on_top c v sound top)

pub close_keeps : (c : Columns) (v : ℕ) → IsColumns c → IsOnTop v c → IsColumns (after_close c v)
unfolding after_close
close_keeps c v sound top = closed_in c (track_of c v) v sound (on_top c v sound top)

-- the covered tracks
leaves : (c : Columns) (k : Track) (t : List Entry) → covered_of (with_shown c k t) ≡ covered_of c
leaves c User t = ap (λ (s : List (List Entry)). columns s (under_topmost c.system)) (under-with_topmost c.user t)
leaves c System t = ap (λ (s : List (List Entry)). columns (under_topmost c.user) s) (under-with_topmost c.system t)

pub open_leaves : (c : Columns) (v x y : ℕ) → covered_of (after_open c v x y) ≡ covered_of c
unfolding after_open
open_leaves c v x y = leaves c (track_at x) (opened (shown_track c (track_at x)) v y)

pub change_leaves : (c : Columns) (v y : ℕ) → covered_of (columns_changed c v y) ≡ covered_of c
unfolding columns_changed
change_leaves c v y =
    leaves c (track_of c v) (changed (shown_track c (track_of c v)) (entry_of (shown_track c (track_of c v)) v) y)

-- a viewer in a track of its own: it stands first there, it can be changed, and it can be closed
first_there : (v : ℕ) → entry_of (whole_track v) v ≡ 0
first_there v = ap (λ b. cond (not b) (1 + 0) 0) (eq-eqb v v refl)

unfoldable over : (c : Columns) (k : Track) (v : ℕ) → Columns
over c k v = with_stack c k (whole_track v ∷ stack_of c k)

on_its_own : (c : Columns) (k : Track) (v : ℕ) → 0 < times_in v (shown_track (over c k v) k)
unfolding over
on_its_own c User v = omega (arith, times-whole_track v v, ap {B = ℕ} (λ b. cond b 1 0) (eq-eqb v v refl))
on_its_own c System v = omega (arith, times-whole_track v v, ap {B = ℕ} (λ b. cond b 1 0) (eq-eqb v v refl))

lowered : (v y : ℕ) → 0 < y → y ≤ ROWS
    → changed (whole_track v) (entry_of (whole_track v) v) y ≡ record { viewer = v; height = y } ∷ []
unfolding changed
lowered v y some within =
    let highest : min y ROWS ≡ y = omega (arith, within) in
    ap (λ i. changed (whole_track v) i y) (first_there v)
    ∙ ap (λ z. cond (nat_lt 0 z) (record { viewer = v; height = z - 0 } ∷ []) (whole_track v)) highest
    ∙ ap (λ b. cond b (record { viewer = v; height = y - 0 } ∷ []) (whole_track v)) (lt-ltb 0 y some)
    ∙ ap (λ h. record { viewer = v; height = h } ∷ []) (omega arith)

closed_away : (v : ℕ) → closed (whole_track v) (entry_of (whole_track v) v) ≡ []
unfolding closed
closed_away v = ap (closed (whole_track v)) (first_there v)

uncovered : (v : ℕ) (s : List (List Entry)) → 0 < length s → closed_on (whole_track v ∷ s) v ≡ s
uncovered v [] some = absurd (omega (arith, some))
uncovered v (t ∷ s) some = ap (laid_on (t ∷ s)) (closed_away v)

lowered_in : (c : Columns) (k : Track) (v y : ℕ) → 0 < y → y ≤ ROWS
    → with_shown (over c k v) k (changed (shown_track (over c k v) k) (entry_of (shown_track (over c k v) k) v) y)
    ≡ with_stack c k ((record { viewer = v; height = y } ∷ []) ∷ stack_of c k)
unfolding over
lowered_in c User v y some within =
    ap (λ (t : List Entry). columns (t ∷ c.user) c.system) (lowered v y some within)
lowered_in c System v y some within =
    ap (λ (t : List Entry). columns c.user (t ∷ c.system)) (lowered v y some within)

uncovered_in : (c : Columns) (k : Track) (v : ℕ) → IsColumns c
    → with_stack (over c k v) k (closed_on (stack_of (over c k v) k) v) ≡ c
unfolding over
uncovered_in c User v sound =
    let stack = sound.user in
    ap (λ (s : List (List Entry)). columns s c.system) (uncovered v c.user stack.some)
uncovered_in c System v sound =
    let stack = sound.system in
    ap (λ (s : List (List Entry)). columns c.user s) (uncovered v c.system stack.some)

after_change_in : (c : Columns) (v y : ℕ) (k : Track) → IsColumns c → 0 < times_in v (shown_track c k)
    → columns_changed c v y ≡ with_shown c k (changed (shown_track c k) (entry_of (shown_track c k) v) y)
unfolding columns_changed
after_change_in c v y k sound some =
    ap (λ (k : Track). with_shown c k (changed (shown_track c k) (entry_of (shown_track c k) v) y)) (shown_in c v k sound some)

after_close_in : (c : Columns) (v : ℕ) (k : Track) → IsColumns c → 0 < times_in v (shown_track c k)
    → after_close c v ≡ with_stack c k (closed_on (stack_of c k) v)
unfolding after_close
after_close_in c v k sound some =
    ap (λ (k : Track). with_stack c k (closed_on (stack_of c k) v)) (shown_in c v k sound some)

pub change_lowers : (c : Columns) (v x y : ℕ) → IsColumns c → ¬ IsPlaced v c → length (stack_of c (track_at x)) < DEPTH
    → 0 < y → y ≤ ROWS
    → columns_changed (after_open_track c v x) v y
    ≡ with_stack c (track_at x) ((record { viewer = v; height = y } ∷ []) ∷ stack_of c (track_at x))
unfolding after_open_track over
change_lowers c v x y sound fresh room some within =
    let k = track_at x in
    after_change_in (over c k v) v y k (covered_in c k v sound fresh room) (on_its_own c k v)
    ∙ lowered_in c k v y some within

pub close_uncovers : (c : Columns) (v x : ℕ) → IsColumns c → ¬ IsPlaced v c
    → length (stack_of c (track_at x)) < DEPTH → after_close (after_open_track c v x) v ≡ c
unfolding after_open_track over
close_uncovers c v x sound fresh room =
    let k = track_at x in
    after_close_in (over c k v) v k (covered_in c k v sound fresh room) (on_its_own c k v)
    ∙ uncovered_in c k v sound
