-- Scrolling: which presses in the scroll bar of a viewer lead to the line that is wished, and what they do.
use Rattle.std.specs.Prelude.{◌≡◌, ℕ, ◌-◌, ◌/◌, ◌%◌, ◌==◌, ◌&&◌, nat_lt, nat_le, Bool, if◌then◌else◌, List, [], ◌∷◌, ◌++◌}
use Rattle.std.specs.Prelude.{replicate, Option, Some, None, option_map, IfSome}
use Rattle.event_bytes.specs.declared.keys.Keys.{Keys}
use Rattle.event_bytes.specs.declared.keys.Keys.TheVariants.{Left, Middle}
use Rattle.event_bytes.specs.declared.event.Event.{Event}
use Rattle.event_bytes.specs.declared.event.Event.TheVariants.{Point}
use Rattle.viewer_tracks.specs.Columns.{seen_at}
use Rattle.desktop_definitions.specs.declared.reply.Reply.TheVariants.{Done}
use Rattle.desktop_definitions.specs.Desktop.{DesktopOf, Desktop}
use Rattle.desktop_definitions.specs.Viewers.{viewer_of, main_of, rows_of, with_org}
use Rattle.desktop_definitions.specs.Change.{bytes_of}
use Rattle.desktop_definitions.specs.Gesture.{is_on_display, left, frame_row}
use Rattle.desktop_definitions.specs.Step.{step}
use Rattle.desk_input.specs.declared.way.Way.{Way}
use Rattle.desk_input.specs.declared.wish.Wish.{Wish}
use Rattle.desk_input.specs.declared.presses.TheConstants.{MOST_PRESSES}
use Rattle.desk_input.specs.Lines.{wished, way_to}

module _ {T : Type 0} where
  -- the viewer that is seen at a cell of the display, or the one with the caret where no cell is meant
  unfoldable pub viewer_meant : DesktopOf T → Option (ℕ × ℕ) → Option ℕ
  viewer_meant d (Some cell) =
      if is_on_display cell.0 cell.1 then seen_at d.columns cell.0 cell.1 else None
  viewer_meant d None = option_map (λ c. c.viewer) d.caret

  -- buttons are pressed in a viewer's scroll bar, at a row of its frame; the frame counts rows from its top
  unfoldable pub bar_press : DesktopOf T → ℕ → Keys → ℕ → Event
  bar_press d v keys row = Point keys (left d v) (frame_row d v row) (left d v) (frame_row d v row)

  -- first the middle button, where it is in the way
  abbrev pub share_presses : DesktopOf T → ℕ → Option ℕ → List Event
  share_presses d v None = []
  share_presses d v (Some row) = bar_press d v Middle row ∷ []

  -- so many lines down: each press of the left button goes down h - 1 lines, the last one what is left
  abbrev pub rest_presses : DesktopOf T → ℕ → ℕ → List Event
  rest_presses d v n = if n == 0 then [] else bar_press d v Left n ∷ []

  abbrev pub down_presses : DesktopOf T → ℕ → ℕ → ℕ → List Event
  down_presses d v h n =
      replicate (n / (h - 1)) (bar_press d v Left (h - 1)) ++ rest_presses d v (n % (h - 1))

  abbrev pub way_presses : DesktopOf T → ℕ → Way → List Event
  way_presses d v way = share_presses d v way.share ++ down_presses d v (rows_of d v) way.lines

-- where the line starts that is wished of a viewer
unfoldable pub wished_in : Desktop → ℕ → Wish → ℕ
wished_in d v wish = wished (bytes_of (main_of d v)) (rows_of d v) (viewer_of d v).org wish

-- the way of a viewer to the line that starts at t
unfoldable pub way_in : Desktop → ℕ → ℕ → Way
way_in d v t = way_to (bytes_of (main_of d v)) (rows_of d v) (viewer_of d v).org t

-- whether a viewer of h rows can go a way: it has two rows, and it isn't too far
abbrev pub is_passable : ℕ → Way → Bool
is_passable h way = nat_lt 1 h && nat_le (way.lines / (h - 1)) MOST_PRESSES

-- the presses that lead there, where it can go that way
abbrev pub line_presses : Desktop → ℕ → ℕ → Option (List Event)
line_presses d v t =
    if is_passable (rows_of d v) (way_in d v t) then Some (way_presses d v (way_in d v t)) else None

abbrev pub presses_in : Desktop → Wish → Option ℕ → Option (List Event)
presses_in d wish None = None
presses_in d wish (Some v) = line_presses d v (wished_in d v wish)

-- the presses for a wish; none where no viewer is meant, or where it can't go that way
unfoldable pub presses_to : Desktop → Option (ℕ × ℕ) → Wish → Option (List Event)
presses_to d at wish = presses_in d wish (viewer_meant d at)

-- These events are done one after another, none is refused, and this is the desktop after them.
abbrev pub LeadTo : Desktop → List Event → Desktop → Type 0
LeadTo d [] new = d ≡ new
LeadTo d (event ∷ more) new =
    ((step d event).reply ≡ Done) × LeadTo (step d event).desktop more new

-- The presses for a wish, and what they do: the viewer shows its text from the wished line on, and nothing else changes.
pub record Scrolls (d : Desktop) (at : Option (ℕ × ℕ)) (wish : Wish)
    (presses : Option (List Event)) : Type 0 where
  pub exact : presses ≡ presses_to d at wish
  pub lead : IfSome (viewer_meant d at) (λ v.
      IfSome presses (λ events. LeadTo d events (with_org d v (wished_in d v wish))))
