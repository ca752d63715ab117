-- The event that a press comes to at the desk, by what stands at a cell.
use Rattle.std.specs.Prelude.{ℕ, ◌+◌, ◌-◌, ◌/◌, Bool, false, ◌&&◌, not, if◌then◌else◌, Option, Some, None, is_some}
use Rattle.std.specs.List.{list_any}
use Rattle.std.specs.Str.{bytes_eq}
use Rattle.event_bytes.specs.declared.event.Event.{Event}
use Rattle.event_bytes.specs.declared.event.Event.TheVariants.{Mark, Point}
use Rattle.status_line.specs.Deeds.{is_middle}
use Rattle.desk_journal.specs.Views.{Place, place_at}
use Rattle.desktop_definitions.specs.Desktop.{Desktop}
use Rattle.desktop_definitions.specs.Listing.{entries_of}
use Rattle.desktop_definitions.specs.declared.entry.Entry.{Entry}
use Rattle.desktop_definitions.specs.declared.entry.Entry.TheVariants.{File}
use Rattle.starter_desktop.specs.declared.TheConstants.{TOOL_NAME}
use Rattle.starter_desktop.specs.StarterDesktop.{tool_event}

-- the row in the middle of a viewer that stands there, where one does, and else the row itself
abbrev pub middle_or : ℕ → Option Place → ℕ
middle_or y None = y
middle_or y (Some place) = (place.bottom + place.top - 1) / 2

abbrev pub is_tool : Entry → Bool
is_tool (File name len) = bytes_eq name TOOL_NAME.now
is_tool _ = false

-- whether a cell is one of the empty display, and there is no text that a click there could open
abbrev pub lacks_tool : Desktop → ℕ × ℕ → Bool
lacks_tool d cell = not (is_some (place_at d cell)) && not (list_any is_tool (entries_of d))

-- What an event of the hand is at the desk. The marker is set in the middle of the viewer that is clicked, so that what
-- opens there takes a part of its rows. A click of the middle key on the empty display files the text of all commands
-- where that is gone.
unfoldable pub event_meant : Desktop → Event → Event
event_meant d (Mark x y) = Mark x (middle_or y (place_at d (x, y)))
event_meant d (Point keys x0 y0 x1 y1) =
    if is_middle keys && lacks_tool d (x0, y0) then tool_event else Point keys x0 y0 x1 y1
event_meant d event = event

-- whether a click begins at a viewer
abbrev pub begins_in_viewer : Desktop → Event → Bool
begins_in_viewer d (Point keys x0 y0 x1 y1) = is_some (place_at d (x0, y0))
begins_in_viewer d event = false
