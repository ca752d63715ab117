-- What a command would lose that is called by the middle button.
use Rattle.std.specs.Prelude.{◌≡◌, ℕ, ◌-◌, ◌==◌, ◌&&◌, Bool, true, false, not, if◌then◌else◌, List, Option, Some, None}
use Rattle.std.specs.Prelude.{option_map, Ok}
use Rattle.std.specs.List.{list_any}
use Rattle.std.specs.Str.{bytes_eq}
use Rattle.piece_ring.specs.Text.{Text}
use Rattle.readers_scanners.specs.Form.{symbol}
use Rattle.viewer_tracks.specs.declared.display.Track.TheVariants.{User, System}
use Rattle.viewer_tracks.specs.Display.{left_of}
use Rattle.viewer_tracks.specs.Columns.{IsOnTop, placed_top, allocated, replaced_at}
use Rattle.command_table.specs.declared.command.Command.{Command}
use Rattle.command_table.specs.declared.command.Command.TheVariants.{EditOpen, SystemOpen, SystemOpenLog, SystemClose}
use Rattle.command_table.specs.declared.command.Command.TheVariants.{SystemRecall, EditStore}
use Rattle.command_table.specs.Versions.{newest_version}
use Rattle.command_table.specs.Parameters.{name_in}
use Rattle.desktop_definitions.specs.declared.call.Call.{Call}
use Rattle.desktop_definitions.specs.declared.region.Region.{Region}
use Rattle.desktop_definitions.specs.declared.region.Region.TheVariants.{Menu, Body}
use Rattle.desktop_definitions.specs.declared.viewer.Viewer.{Viewer}
use Rattle.desktop_definitions.specs.declared.viewer.ClosedViewer.{ClosedViewer}
use Rattle.desktop_definitions.specs.Desktop.{DesktopOf, Desktop, file_of}
use Rattle.desktop_definitions.specs.Viewers.{viewer_of, text_of, main_of}
use Rattle.desktop_definitions.specs.Change.{bytes_of}
use Rattle.desktop_definitions.specs.Call.{text_called, target_viewer}
use Rattle.desktop_definitions.specs.Commands.{command_at, commanded}
use Rattle.desktop_definitions.specs.Effects.{menu_name}
use Rattle.desktop_definitions.specs.Gesture.{is_on_display, left, region_at, menu_position, text_position}
use Rattle.desktop_definitions.specs.Sound.{IsShaped, times_there}
use Rattle.desktop_definitions.specs.Step.{marked}
use Rattle.desk_views.specs.declared.losses.Loss.{Loss}
use Rattle.desk_views.specs.declared.losses.Loss.TheVariants.{Closed, Taken, Rivalled}
use Rattle.desk_views.specs.Unstored.{is_in_file, is_unstored, was_closed, closed_id}

module _ {T : Type 0} where
  -- the first cell of a viewer's menu
  abbrev pub menu_start : DesktopOf T → ℕ → ℕ × ℕ
  menu_start d v = (left d v, placed_top d.columns v - 1)

-- ---- a viewer is closed

-- its text would be lost
abbrev pub lost_by_closing : Desktop → Option ℕ → Option Loss
lost_by_closing d None = None
lost_by_closing d (Some v) = if is_unstored d v then Some (Closed (menu_start d v)) else None

-- ---- a viewer opens

-- the cell at which the one stood that was closed last
abbrev pub closed_cell : Option ClosedViewer → Option (ℕ × ℕ)
closed_cell None = None
closed_cell (Some k) = Some (left_of k.track, k.top)

module _ {T : Type 0} where
  -- the cell at which a command opens one
  abbrev pub opening_cell : DesktopOf T → Command → Option (ℕ × ℕ)
  opening_cell d EditOpen = Some (allocated d.columns User d.marker)
  opening_cell d SystemOpen = Some (allocated d.columns System d.marker)
  opening_cell d SystemOpenLog = Some (allocated d.columns System d.marker)
  opening_cell d SystemRecall = closed_cell d.closed
  opening_cell d _ = None

  abbrev pub replaced_in : DesktopOf T → Option (ℕ × ℕ) → Option ℕ
  replaced_in d None = None
  replaced_in d (Some cell) = replaced_at d.columns cell.0 cell.1

  -- the viewer whose whole place that one takes
  unfoldable pub taken_by : DesktopOf T → Command → Option ℕ
  taken_by d command = replaced_in d (opening_cell d command)

  abbrev pub lost_by_opening : DesktopOf T → Command → Option Loss
  lost_by_opening d command = option_map (λ v. Taken (menu_start d v)) (taken_by d command)

-- ---- a viewer's text is stored

-- whether a menu names a document: its first symbol is that name
abbrev pub is_named : Option (List ℕ) → List ℕ → Bool
is_named None name = false
is_named (Some other) name = bytes_eq other name

abbrev pub names_document : Text ℕ → List ℕ → Bool
names_document menu name = is_named (name_in (symbol (bytes_of menu) 0).0) name

-- whether a viewer of the table is on the display, shows another text than that of a number, and is named so
abbrev pub is_rival : Desktop → ℕ → List ℕ → ℕ × Viewer → Bool
is_rival d number name e =
    not (e.1.main == number)
    && (not (was_closed (closed_id d) e.0) && names_document (text_of d e.1.menu) name)

-- whether the document has another text than a viewer, and is open in a rival of it
abbrev pub is_stored_over : Desktop → ℕ → Option (List ℕ) → Bool
is_stored_over d v None = false
is_stored_over d v (Some name) =
    not (is_in_file (main_of d v) (file_of d name))
    && list_any (is_rival d (viewer_of d v).main name) d.viewers

-- whether the document is that its menu names
unfoldable pub is_rivalled : Desktop → ℕ → Bool
is_rivalled d v = is_stored_over d v (menu_name d v)

abbrev pub lost_by_storing : Desktop → Option ℕ → Option Loss
lost_by_storing d None = None
lost_by_storing d (Some v) = if is_rivalled d v then Some (Rivalled (menu_start d v)) else None

-- ---- a command is called

-- by the command, and the viewer that it means
unfoldable pub lost_by : Desktop → Command → Option ℕ → Option Loss
lost_by d SystemClose meant = lost_by_closing d meant
lost_by d EditStore meant = lost_by_storing d meant
lost_by d command meant = lost_by_opening d command

abbrev pub lost_by_found : Desktop → ℕ → Bool → Option (Command × ℕ) → Option Loss
lost_by_found d v in_menu None = None
lost_by_found d v in_menu (Some found) =
    lost_by d found.0 (target_viewer d (record { viewer = v; in_menu = in_menu; after = found.1 }))

-- by the word at a position of a viewer's menu or main text
unfoldable pub lost_by_call : Desktop → ℕ → Bool → ℕ → Option Loss
lost_by_call d v in_menu p =
    lost_by_found d v in_menu (command_at newest_version (bytes_of (text_called d v in_menu)) p)

-- by the word that is shown nearest to a cell, where the button went down in a region
abbrev pub lost_in : Desktop → Region → ℕ × ℕ → Option Loss
lost_in d (Menu v) to = lost_by_call d v true (menu_position d v to.0)
lost_in d (Body v) to = lost_by_call d v false (text_position d v to.0 to.1)
lost_in d _ to = None

-- by a click: the button went down at a cell, and up at another
unfoldable pub lost_by_click : Desktop → ℕ × ℕ → ℕ × ℕ → Option Loss
lost_by_click d from to =
    if is_on_display from.0 from.1 && is_on_display to.0 to.1
    then lost_in d (region_at d from.0 from.1) to else None

-- and by one before which the marker is set to a cell, where one is meant
unfoldable pub loss_at : Desktop → Option (ℕ × ℕ) → ℕ × ℕ → ℕ × ℕ → Option Loss
loss_at d None from to = lost_by_click d from to
loss_at d (Some m) from to =
    if is_on_display m.0 m.1 then lost_by_click (marked d m.0 m.1) from to else None

-- ---- what it means

-- Where a command is done that takes a viewer, that one was shown, and then it stands nowhere, and isn't the one that
-- was closed last: it is gone.
abbrev pub TakenViewersGo : Type 0
TakenViewersGo = (d new : Desktop) (command : Command) (call : Call) (v : ℕ) → IsShaped d
    → commanded d command call ≡ Ok new → taken_by d command ≡ Some v
    → IsOnTop v d.columns × (times_there new.columns new.closed v ≡ 0)
