-- What opening, changing and closing make of a track.
--
-- Opening at row y looks for the least entry whose top reaches y. The new viewer gets the rows of that entry from its
-- bottom up to y, and one row at least. If that is all that a viewer there had, that viewer is gone; otherwise the
-- entry keeps the rest. Changing moves the border between a viewer and the entry above it to row y, or as near as it
-- can: a viewer above keeps a row, and the border never passes the display. Where y would leave the viewer itself no
-- row, nothing changes. Closing gives a viewer's rows to the entry above it. No edit touches any other row, and a
-- viewer that an edit doesn't speak of stays where it was.
use Rattle.std.specs.Prelude.{ℕ, zero, suc, ◌+◌, ◌-◌, Bool, ◌&&◌, if◌then◌else◌, nat_lt, ◌==◌, min, max, Option, None}
use Rattle.std.specs.Prelude.{List, [], ◌∷◌, length, insert, remove}
use Rattle.viewer_tracks.specs.declared.display.TheConstants.{ROWS}
use Rattle.viewer_tracks.specs.Viewers.{Entry, bottom_of, top_of, lowest_reaching, entry_viewer}

-- the track with entry i replaced by what f makes of it; nothing is kept of the filler, so there f changes nothing
abbrev pub with_entry : (Entry → Entry) → List Entry → ℕ → List Entry
with_entry f [] i = []
with_entry f (e ∷ t) zero = f e ∷ t
with_entry f (e ∷ t) (suc i) = e ∷ with_entry f t i

-- an entry's viewer at another height, and another viewer at its height
abbrev pub with_height : ℕ → Entry → Entry
with_height h e = record e { height = h }

abbrev pub entry_with_viewer : ℕ → Entry → Entry
entry_with_viewer v e = record e { viewer = v }

-- the entry in which a viewer opens at row y, and the row before which it ends there
abbrev pub open_entry : List Entry → ℕ → ℕ
open_entry t y = lowest_reaching t (min y ROWS)

abbrev pub open_top : List Entry → ℕ → ℕ
open_top t y = max (min y ROWS) (bottom_of t (open_entry t y) + 1)

-- whether the rows of entry i before row `top` are all that a viewer has there
abbrev pub takes_place : List Entry → ℕ → ℕ → Bool
takes_place t i top = nat_lt i (length t) && (top == top_of t i)

-- the track with v in the rows of entry i before row `top`
abbrev pub put_into : List Entry → ℕ → ℕ → ℕ → List Entry
put_into t v i top =
    let h = top - bottom_of t i in
    if takes_place t i top
    then with_entry (entry_with_viewer v) t i
    else insert (with_entry (λ e. with_height (e.height - h) e) t i) i
    (record { viewer = v; height = h })

-- the track after v opened at row y
unfoldable pub opened : List Entry → ℕ → ℕ → List Entry
opened t v y = put_into t v (open_entry t y) (open_top t y)

-- the viewer that one opening at row y replaces
unfoldable pub replaced : List Entry → ℕ → Option ℕ
replaced t y =
    if takes_place t (open_entry t y) (open_top t y) then entry_viewer t (open_entry t y) else None

-- where the border above the viewer i is after a move to row y
abbrev pub change_top : List Entry → ℕ → ℕ → ℕ
change_top t i y =
    let z = min y ROWS in
    if nat_lt (i + 1) (length t) then min z (top_of t (i + 1) - 1) else z

-- the track after the top of the viewer i was moved to row y
unfoldable pub changed : List Entry → ℕ → ℕ → List Entry
changed t i y =
    let z = change_top t i y in
    if nat_lt (bottom_of t i) z
    then with_entry (with_height (top_of t (i + 1) - z))
    (with_entry (with_height (z - bottom_of t i)) t i) (i + 1)
    else t

-- the track after the viewer i was closed
unfoldable pub closed : List Entry → ℕ → List Entry
closed t i =
    let h = top_of t i - bottom_of t i in
    remove (with_entry (λ e. with_height (e.height + h) e) t (i + 1)) i
