-- What a desktop tells of itself before and after a command is called.
use Rattle.std.specs.Prelude.{ℕ, ◌-◌, ◌==◌, if◌then◌else◌, nat_lt, is_some, List, length, take, slice_range}
use Rattle.std.specs.Prelude.{Option, Some, None, option_map}
use Rattle.viewer_tracks.specs.declared.display.TheConstants.{COLUMNS}
use Rattle.viewer_tracks.specs.declared.tracks.Place.{Place}
use Rattle.viewer_tracks.specs.Columns.{placed_bottom, placed_top, seen_at, times_shown}
use Rattle.text_frames.specs.Lines.{line_start}
use Rattle.desktop_definitions.specs.Desktop.{DesktopOf, Desktop}
use Rattle.desktop_definitions.specs.Viewers.{text_of, viewer_of}
use Rattle.desktop_definitions.specs.Change.{bytes_of}
use Rattle.desktop_definitions.specs.Opening.{new_id}
use Rattle.desktop_definitions.specs.Gesture.{is_on_display, left}
use Rattle.desk_views.specs.declared.info.DeskInfo.{DeskInfo}
use Rattle.desk_views.specs.declared.info.ShownViewer.{ShownViewer}
use Rattle.desk_views.specs.Unstored.{closed_id}

-- ---- viewers

module _ {T : Type 0} where
  abbrev pub viewer_place : DesktopOf T → ℕ → Place
  viewer_place d v = record {
    x = left d v;
    bottom = placed_bottom d.columns v;
    top = placed_top d.columns v;
  }

  -- where a viewer stands, and whether it shows the log, whose text is number 0
  abbrev pub viewer_there : DesktopOf T → ℕ → ShownViewer
  viewer_there d v =
      record { place = viewer_place d v; is_log = (viewer_of d v).main == 0 }

  -- the same, if it stands in a track that is shown
  unfoldable pub shown_viewer : DesktopOf T → ℕ → Option ShownViewer
  shown_viewer d v =
      if nat_lt 0 (times_shown v d.columns) then Some (viewer_there d v) else None

  -- where the viewer stands that is seen at a cell
  unfoldable pub place_at : DesktopOf T → ℕ × ℕ → Option Place
  place_at d cell = if is_on_display cell.0 cell.1
      then option_map (viewer_place d) (seen_at d.columns cell.0 cell.1) else None

-- the id of the next viewer that opens, that of the one that was closed last and that of the one with the caret, the
-- caret's position, whether the marker is set, and how many characters the log has
unfoldable pub desk_info : Desktop → DeskInfo
desk_info d = record {
  next_viewer = new_id d;
  closed_viewer = closed_id d;
  caret_viewer = option_map (λ c. c.viewer) d.caret;
  caret_position = option_map (λ c. c.position) d.caret;
  is_marked = is_some d.marker;
  log_length = length (text_of d 0);
}

-- ---- the log

-- the last carriage return of these bytes; 0 where there is none
abbrev pub last_end : List ℕ → ℕ
last_end bs = line_start bs (length bs) - 1

-- the line that it ends, without it
abbrev pub last_line : List ℕ → List ℕ
last_line bs = slice_range bs (line_start bs (last_end bs)) (last_end bs)

-- the last whole line of the log, as far as a row of the display shows it
unfoldable pub last_log_line : Desktop → List ℕ
last_log_line d = take COLUMNS (last_line (bytes_of (text_of d 0)))
