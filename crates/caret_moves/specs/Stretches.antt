-- Stretches of a text that a key selects or cuts.
use Rattle.std.specs.Prelude.{ℕ, ◌+◌, ◌-◌, ◌==◌, nat_lt, min, max, Bool, if◌then◌else◌, length, Option, Some, None}
use Rattle.event_bytes.specs.declared.keys.Keys.{Keys}
use Rattle.event_bytes.specs.declared.event.Event.{Event}
use Rattle.event_bytes.specs.declared.event.Event.TheVariants.{Point}
use Rattle.text_frames.specs.Lines.{line_start}
use Rattle.desktop_definitions.specs.declared.viewer.Selection.{Selection}
use Rattle.desktop_definitions.specs.Desktop.{DesktopOf, Desktop}
use Rattle.desktop_definitions.specs.Viewers.{main_of, newest, selected, with_selection}
use Rattle.desktop_definitions.specs.Change.{bytes_of, cut_out}
use Rattle.caret_moves.specs.Steps.{end_of_line}

-- the stretch between two positions of a viewer's text
abbrev pub stretch_of : ℕ → ℕ → ℕ → Selection
stretch_of v p q = record { viewer = v; beg = min p q; end = max p q }

-- where a stretch up to p ends whose line begins at start: before the line end before it, where that isn't shown
abbrev pub stop_by : ℕ → ℕ → Bool → ℕ
stop_by p start is_shown = if start == p then (if is_shown then p else p - 1) else p

-- a stretch up to there
abbrev pub up_to : Selection → ℕ → Selection
up_to s stop = record { viewer = s.viewer; beg = min s.beg stop; end = stop }

-- the other end of a selection of which one end is p, or the end is where a stretch up to p stops; of another it is p
abbrev pub other_end : Selection → ℕ → ℕ → ℕ → ℕ
other_end s v p stop = if s.viewer == v then (if s.beg == p then s.end else
    (if s.end == p then s.beg else (if s.end == stop then s.beg else p))) else p

abbrev pub end_by : Option Selection → ℕ → ℕ → ℕ → ℕ
end_by None v p stop = p
end_by (Some s) v p stop = other_end s v p stop

-- where what is selected begins that ends at p, or where a stretch up to p stops; where nothing is it is p
unfoldable pub anchor_by : {T : Type 0} → DesktopOf T → ℕ → ℕ → ℕ → ℕ
anchor_by d v p stop = end_by (newest d) v p stop

-- the line of p, with its end
unfoldable pub line_around : Desktop → ℕ → ℕ → Selection
line_around d v p = let bs = bytes_of (main_of d v) in
    stretch_of v (line_start bs p) (min (end_of_line bs p + 1) (length bs))

-- a stretch is selected, where it has a character
abbrev pub with_stretch : Desktop → Selection → Desktop
with_stretch d s = if nat_lt s.beg s.end then with_selection d s else d

-- a stretch goes into the deleted buffer, and the caret stands where it was
abbrev pub without_stretch : Desktop → Selection → Desktop
without_stretch d s = record (cut_out d s) { deleted = selected d s }

-- buttons go down at one cell and up at another
abbrev pub drag_by : Keys → Option (ℕ × ℕ) → Option (ℕ × ℕ) → Option Event
drag_by keys (Some from) (Some to) = Some (Point keys from.0 from.1 to.0 to.1)
drag_by keys (Some from) None = None
drag_by keys None to = None
