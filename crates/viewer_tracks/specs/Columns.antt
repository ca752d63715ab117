-- The two columns of the display. A column is a stack of one to eight tracks with the topmost first, which alone is
-- seen, opened into, changed and closed in. Levels count from the lowest track, which has level 1; all tracks above it
-- are overlays, and each of these has a viewer.
use Rattle.std.specs.Prelude.{◌≡◌, ℕ, ◌+◌, ◌-◌, ◌<◌, ◌≤◌, if◌then◌else◌, ◌==◌, nat_lt, Option, Some, None}
use Rattle.std.specs.Prelude.{List, [], ◌∷◌, length, reverse, get_or, All, sum_by}
use Rattle.viewer_tracks.specs.declared.display.Track.{Track}
use Rattle.viewer_tracks.specs.declared.display.Track.TheVariants.{User, System}
use Rattle.viewer_tracks.specs.declared.display.TheConstants.{ROWS, DEPTH}
use Rattle.viewer_tracks.specs.Display.{track_at, left_of}
use Rattle.viewer_tracks.specs.Viewers.{Entry, IsTrack, bottom_of, top_of, times_in, entry_of, viewer_at}
use Rattle.viewer_tracks.specs.Edits.{opened, replaced, changed, closed}
use Rattle.viewer_tracks.specs.Room.{free_row}

-- the stacks of the user's and of the system's column
pub record Columns : Type 0 where
  pub user : List (List Entry)
  pub system : List (List Entry)

-- no viewer anywhere
abbrev pub no_viewers : Columns
no_viewers = record { user = [] ∷ []; system = [] ∷ [] }

abbrev pub stack_of : Columns → Track → List (List Entry)
stack_of c User = c.user
stack_of c System = c.system

abbrev pub with_stack : Columns → Track → List (List Entry) → Columns
with_stack c User s = record c { user = s }
with_stack c System s = record c { system = s }

-- the topmost track of a stack, and the stack with another one in its place
abbrev pub topmost : List (List Entry) → List Entry
topmost [] = []
topmost (t ∷ under) = t

abbrev pub with_topmost : List (List Entry) → List Entry → List (List Entry)
with_topmost [] new = new ∷ []
with_topmost (t ∷ under) new = new ∷ under

-- the tracks under the topmost one
abbrev pub under_topmost : List (List Entry) → List (List Entry)
under_topmost [] = []
under_topmost (t ∷ under) = under

-- the track of a level
abbrev pub track_on : List (List Entry) → ℕ → List Entry
track_on s level = get_or (reverse s) (level - 1) []

-- the track in which a viewer stands
abbrev pub track_with : ℕ → List (List Entry) → List Entry
track_with v [] = []
track_with v (t ∷ under) = if nat_lt 0 (times_in v t) then t else track_with v under

-- a track that one viewer has whole
abbrev pub whole_track : ℕ → List Entry
whole_track v = record { viewer = v; height = ROWS } ∷ []

-- a track over those under it; one without viewers covers no other
abbrev pub laid_on : List (List Entry) → List Entry → List (List Entry)
laid_on [] new = new ∷ []
laid_on (t ∷ under) [] = t ∷ under
laid_on (t ∷ under) (e ∷ new) = (e ∷ new) ∷ t ∷ under

-- the stack after a viewer of its topmost track was closed: an overlay goes with the last viewer that it has
abbrev pub closed_on : List (List Entry) → ℕ → List (List Entry)
closed_on s v = laid_on (under_topmost s) (closed (topmost s) (entry_of (topmost s) v))

-- the track that a column shows, and the columns with another one shown
abbrev pub shown_track : Columns → Track → List Entry
shown_track c k = topmost (stack_of c k)

abbrev pub with_shown : Columns → Track → List Entry → Columns
with_shown c k t = with_stack c k (with_topmost (stack_of c k) t)

-- how often a viewer stands in a stack, and in both columns
abbrev pub times_on : ℕ → List (List Entry) → ℕ
times_on v s = sum_by (times_in v) s

abbrev pub times_placed : ℕ → Columns → ℕ
times_placed v c = times_on v c.user + times_on v c.system

-- 1 for the viewer that is meant, where one is, and 0 for all others
abbrev pub times_meant : ℕ → Option ℕ → ℕ
times_meant v None = 0
times_meant v (Some w) = if w == v then 1 else 0

-- a viewer stands in a track, which is shown or covered
abbrev pub IsPlaced : ℕ → Columns → Type 0
IsPlaced v c = 0 < times_placed v c

-- how often a viewer stands in the tracks that are shown
abbrev pub times_shown : ℕ → Columns → ℕ
times_shown v c = times_in v (shown_track c User) + times_in v (shown_track c System)

-- a viewer stands in a track that is shown
abbrev pub IsOnTop : ℕ → Columns → Type 0
IsOnTop v c = 0 < times_shown v c

-- the tracks of both columns that are covered
abbrev pub covered_of : Columns → Columns
covered_of c = record { user = under_topmost c.user; system = under_topmost c.system }

-- what is true of a stack at all times: it has one to eight tracks, heights fit, and each overlay has a viewer
pub record IsStack (s : List (List Entry)) : Type 0 where
  pub some : 0 < length s
  pub few : length s ≤ DEPTH
  pub tracks : All IsTrack s
  pub overlays : (level : ℕ) → 1 < level → level ≤ length s → 0 < length (track_on s level)

-- what is true of the columns at all times: each is a stack, and a viewer stands in one place at most
pub record IsColumns (c : Columns) : Type 0 where
  pub user : IsStack c.user
  pub system : IsStack c.system
  pub once : (v : ℕ) → times_placed v c ≤ 1

-- the column in which a placed viewer stands, its track there, and its entry in that track
unfoldable pub track_of : Columns → ℕ → Track
track_of c v = if nat_lt 0 (times_on v c.user) then User else System

abbrev pub placed_in : Columns → ℕ → List Entry
placed_in c v = track_with v (stack_of c (track_of c v))

abbrev pub placed_entry : Columns → ℕ → ℕ
placed_entry c v = entry_of (placed_in c v) v

-- the row at which a placed viewer begins, and the one before which it ends
abbrev pub placed_bottom : Columns → ℕ → ℕ
placed_bottom c v = bottom_of (placed_in c v) (placed_entry c v)

abbrev pub placed_top : Columns → ℕ → ℕ
placed_top c v = top_of (placed_in c v) (placed_entry c v)

-- a viewer is shown and has the cell at column x and row y
pub record StandsAt (c : Columns) (v x y : ℕ) : Type 0 where
  pub placed : IsOnTop v c
  pub track : track_of c v ≡ track_at x
  pub from : placed_bottom c v ≤ y
  pub before : y < placed_top c v

-- the viewer that is seen at a cell of the display
abbrev pub seen_at : Columns → ℕ → ℕ → Option ℕ
seen_at c x y = viewer_at (shown_track c (track_at x)) y

-- the viewer that the track of a level has at a cell, be that seen or covered
abbrev pub at_level : Columns → ℕ → ℕ → ℕ → Option ℕ
at_level c level x y = viewer_at (track_on (stack_of c (track_at x)) level) y

-- the columns after a viewer opened at a cell, and the viewer that it replaced
unfoldable pub after_open : Columns → ℕ → ℕ → ℕ → Columns
after_open c v x y = with_shown c (track_at x) (opened (shown_track c (track_at x)) v y)

abbrev pub replaced_at : Columns → ℕ → ℕ → Option ℕ
replaced_at c x y = replaced (shown_track c (track_at x)) y

-- the columns after a viewer opened in a track of its own over the one that column x showed
unfoldable pub after_open_track : Columns → ℕ → ℕ → Columns
after_open_track c v x = with_stack c (track_at x) (whole_track v ∷ stack_of c (track_at x))

-- the columns after the top of a shown viewer was moved to row y
unfoldable pub columns_changed : Columns → ℕ → ℕ → Columns
columns_changed c v y =
    let t = shown_track c (track_of c v) in
    with_shown c (track_of c v) (changed t (entry_of t v) y)

-- the columns after a shown viewer was closed
unfoldable pub after_close : Columns → ℕ → Columns
after_close c v = with_stack c (track_of c v) (closed_on (stack_of c (track_of c v)) v)

-- the cell at which to open a new viewer: above the marker, wherever that is, or else where the track has room
abbrev pub allocated : Columns → Track → Option (ℕ × ℕ) → ℕ × ℕ
allocated c k (Some marker) = (marker.0, marker.1 + 1)
allocated c k None = (left_of k, free_row (shown_track c k))
