-- What the mouse does. The keys went down at one cell of the display, (x0, y0), and up at another, (x1, y1).
use Rattle.std.specs.Prelude.{ℕ, ◌+◌, ◌-◌, ◌*◌, ◌/◌, ◌==◌, ◌&&◌, ◌<◌, nat_lt, min, max, Bool, true, false}
use Rattle.std.specs.Prelude.{if◌then◌else◌}
use Rattle.std.specs.Prelude.{⊤, length, codes}
use Rattle.std.specs.Prelude.{Option, Some, None, Result, Ok}
use Rattle.event_bytes.specs.declared.keys.Keys.{Keys}
use Rattle.event_bytes.specs.declared.keys.Keys.TheVariants.{Left, LeftMiddle, LeftRight, Middle}
use Rattle.event_bytes.specs.declared.keys.Keys.TheVariants.{Right, RightLeft, RightMiddle}
use Rattle.text_core.specs.Attributes.{look_at}
use Rattle.viewer_tracks.specs.declared.display.TheConstants.{ROWS, COLUMNS}
use Rattle.viewer_tracks.specs.Display.{left_of}
use Rattle.viewer_tracks.specs.Columns.{IsOnTop, track_of, placed_bottom, placed_top, seen_at, after_close}
use Rattle.viewer_tracks.specs.Columns.{columns_changed as columns_changed}
use Rattle.text_frames.specs.Lines.{line_start}
use Rattle.text_frames.specs.Cells.{position_at, row_of}
use Rattle.screen_pictures.specs.Picture.{width_of}
use Rattle.desktop_definitions.specs.declared.region.Region.{Region}
use Rattle.desktop_definitions.specs.declared.region.Region.TheVariants.{Filler, Menu, Bar, Body}
use Rattle.desktop_definitions.specs.declared.viewer.Selection.{Selection}
use Rattle.desktop_definitions.specs.Limits.{no_caret, no_selection, no_file}
use Rattle.desktop_definitions.specs.Needs.{needs, unless}
use Rattle.desktop_definitions.specs.Desktop.{DesktopOf, Desktop, file_of}
use Rattle.desktop_definitions.specs.Viewers.{viewer_of, with_org, rows_of, with_caret, newest, unselected}
use Rattle.desktop_definitions.specs.Viewers.{with_selection}
use Rattle.desktop_definitions.specs.Viewers.{opened_at, main_of, menu_of, selected}
use Rattle.desktop_definitions.specs.Looks.{whole_look}
use Rattle.desktop_definitions.specs.Change.{bytes_of, looks_set, put_in, put_at_caret, cut_out}
use Rattle.desktop_definitions.specs.Commands.{after_call}
use Rattle.desktop_definitions.specs.Effects.{opened_on_copy}

abbrev pub is_on_display : ℕ → ℕ → Bool
is_on_display x y = nat_lt x COLUMNS && nat_lt y ROWS

-- the nearest number from a up to b
abbrev pub clamped : ℕ → ℕ → ℕ → ℕ
clamped a b n = max a (min n b)

module _ {T : Type 0} where
  -- the leftmost column of a viewer, and how many columns it has
  abbrev pub left : DesktopOf T → ℕ → ℕ
  left d v = left_of (track_of d.columns v)

  abbrev pub width : DesktopOf T → ℕ → ℕ
  width d v = width_of (track_of d.columns v)

  -- the top row of a viewer is its menu, and below that the first column is its scroll bar
  abbrev pub part_of : DesktopOf T → ℕ → ℕ → Option ℕ → Region
  part_of d x y None = Filler
  part_of d x y (Some v) =
      if y + 1 == placed_top d.columns v then Menu v else
      (if x == left d v then Bar v else Body v)

  unfoldable pub region_at : DesktopOf T → ℕ → ℕ → Region
  region_at d x y = part_of d x y (seen_at d.columns x y)

  -- the row of a viewer's main frame at row y of the display, counted from the top
  abbrev pub frame_row : DesktopOf T → ℕ → ℕ → ℕ
  frame_row d v y = placed_top d.columns v - 2 - y

  -- the nearest column of the menu frame's cells, and of the text cells of the main frame, to a column of the display
  abbrev pub menu_column : DesktopOf T → ℕ → ℕ → ℕ
  menu_column d v x = clamped (left d v) (left d v + width d v - 1) x - left d v

  abbrev pub text_column : DesktopOf T → ℕ → ℕ → ℕ
  text_column d v x = clamped (left d v + 1) (left d v + width d v - 1) x - (left d v + 1)

  -- and the nearest row of the main frame to a row of the display
  abbrev pub text_row : DesktopOf T → ℕ → ℕ → ℕ
  text_row d v y =
      frame_row d v (clamped (placed_bottom d.columns v) (placed_top d.columns v - 2) y)

  -- ---- in a menu

  -- the top of a viewer goes to row y of the display
  unfoldable pub resized : DesktopOf T → ℕ → ℕ → DesktopOf T
  resized d v y = record d { columns = columns_changed d.columns v (y + 1) }

  -- the viewer is closed and opened at a cell, with what is marked in it
  unfoldable pub after_move : DesktopOf T → ℕ → ℕ → ℕ → DesktopOf T
  after_move d v x y = opened_at (record d { columns = after_close d.columns v }) v (x, y + 1)

-- the position in a viewer's main text that is shown nearest to a cell
unfoldable pub text_position : Desktop → ℕ → ℕ → ℕ → ℕ
text_position d v x y =
    position_at (bytes_of (main_of d v)) (viewer_of d v).org (text_column d v x) (text_row d v y)

-- the position in a viewer's menu that is shown nearest to a column
unfoldable pub menu_position : Desktop → ℕ → ℕ → ℕ
menu_position d v x = position_at (bytes_of (menu_of d v)) 0 (menu_column d v x) 0

-- ---- in a scroll bar

-- the line in that row comes first, where there is one
unfoldable pub scrolled_to_row : Desktop → ℕ → ℕ → Desktop
scrolled_to_row d v row =
    let begin = position_at (bytes_of (main_of d v)) (viewer_of d v).org 0 row in
    if row_of (bytes_of (main_of d v)) (viewer_of d v).org begin == row then with_org d v begin
    else d

-- the line comes first that stands as far down in the text as the row in the frame
unfoldable pub scrolled_to_share : Desktop → ℕ → ℕ → Desktop
scrolled_to_share d v row =
    with_org d v (line_start (bytes_of (main_of d v)) (length (main_of d v) * row / rows_of d v))

-- ---- in a text

-- the stretch that the mouse drew between two positions of a viewer's text, with the characters at both
abbrev pub selection_drawn : Desktop → ℕ → ℕ → ℕ → Selection
selection_drawn d v p q =
    record { viewer = v; beg = min p q; end = min (max p q + 1) (length (main_of d v)) }

abbrev pub is_some_stretch : Selection → Bool
is_some_stretch s = nat_lt s.beg s.end

-- it is selected; where it is empty nothing of its frame is
unfoldable pub drawn_in : {T : Type 0} → DesktopOf T → Selection → DesktopOf T
drawn_in d s = if is_some_stretch s then with_selection d s else unselected d s.viewer

-- a copy of the newest selection is put in at a position
unfoldable pub copied_to : Desktop → ℕ → ℕ → Result Desktop ℕ
copied_to d v p = needs (newest d) no_selection λ s. Ok (put_in d v p (selected d s))

-- the newest selection gets the look at a position, where the caret then stands
unfoldable pub looks_taken : Desktop → ℕ → ℕ → Result Desktop ℕ
looks_taken d v p =
    needs (newest d) no_selection λ s.
    Ok (with_caret (looks_set d s whole_look (look_at p (main_of d v))) v p)

-- a stretch goes into the deleted buffer
unfoldable pub taken_out : Desktop → Selection → Result Desktop ℕ
taken_out d s =
    unless (is_some_stretch s) no_selection (Ok (record (cut_out d s) { deleted = selected d s }))

-- a stretch is selected, and a copy of it put in at the caret
unfoldable pub sent_to_caret : Desktop → Selection → Result Desktop ℕ
sent_to_caret d s =
    unless (is_some_stretch s) no_selection
    (needs d.caret no_caret λ c. Ok (put_at_caret (drawn_in d s) (selected d s) c))

-- ---- in a filler

-- the tool text opens there, in whichever track it is
unfoldable pub tool_opened : Desktop → ℕ → ℕ → Result Desktop ℕ
tool_opened d x y =
    let name = codes "System.Tool" in
    needs (file_of d name) no_file λ text. Ok (opened_on_copy d name text (x, y + 1))

-- ---- the table of gestures

-- the positions at both cells
abbrev pub stretch_drawn : Desktop → ℕ → ℕ → ℕ → ℕ → ℕ → Selection
stretch_drawn d v x0 y0 x1 y1 =
    selection_drawn d v (text_position d v x0 y0) (text_position d v x1 y1)

-- what the keys do in each region, in a version of the table of commands where a word may be called; what isn't named
-- here changes nothing

unfoldable pub done_in_filler : Desktop → Keys → ℕ → ℕ → Result Desktop ℕ
done_in_filler d Middle x y = tool_opened d x y
done_in_filler d keys x y = Ok d

unfoldable pub done_in_menu : ℕ → Desktop → Keys → ℕ → ℕ → ℕ → Result Desktop ℕ
done_in_menu version d Left v x y = Ok (resized d v y)
done_in_menu version d LeftMiddle v x y = Ok (after_move d v x y)
done_in_menu version d Middle v x y = after_call version d v true (menu_position d v x)
done_in_menu version d keys v x y = Ok d

unfoldable pub done_in_bar : Desktop → Keys → ℕ → ℕ → Result Desktop ℕ
done_in_bar d Left v row = Ok (scrolled_to_row d v row)
done_in_bar d Middle v row = Ok (scrolled_to_share d v row)
done_in_bar d Right v row = Ok (with_org d v 0)
done_in_bar d keys v row = Ok d

-- at a position of a text
unfoldable pub done_at : ℕ → Desktop → Keys → ℕ → ℕ → Result Desktop ℕ
done_at version d Left v p = Ok (with_caret d v p)
done_at version d LeftMiddle v p = copied_to d v p
done_at version d LeftRight v p = looks_taken d v p
done_at version d Middle v p = after_call version d v false p
done_at version d keys v p = Ok d

-- with a stretch of it that was drawn
unfoldable pub done_with : Desktop → Keys → Selection → Result Desktop ℕ
done_with d Right s = Ok (drawn_in d s)
done_with d RightLeft s = taken_out d s
done_with d RightMiddle s = sent_to_caret d s
done_with d keys s = Ok d

-- which cell says where it is done: in a text the right button draws between both, and other keys mean the one where
-- they went up
unfoldable pub pointed : ℕ → Desktop → Region → Keys → ℕ → ℕ → ℕ → ℕ → Result Desktop ℕ
pointed version d Filler keys x0 y0 x1 y1 = done_in_filler d keys x0 y0
pointed version d (Menu v) keys x0 y0 x1 y1 = done_in_menu version d keys v x1 y1
pointed version d (Bar v) keys x0 y0 x1 y1 = done_in_bar d keys v (frame_row d v y0)
pointed version d (Body v) Right x0 y0 x1 y1 = done_with d Right (stretch_drawn d v x0 y0 x1 y1)
pointed version d (Body v) RightLeft x0 y0 x1 y1 =
    done_with d RightLeft (stretch_drawn d v x0 y0 x1 y1)
pointed version d (Body v) RightMiddle x0 y0 x1 y1 =
    done_with d RightMiddle (stretch_drawn d v x0 y0 x1 y1)
pointed version d (Body v) keys x0 y0 x1 y1 = done_at version d keys v (text_position d v x1 y1)

-- The viewer of a region stands in a track that is shown; where row y is one of its main frame, it has such rows.
abbrev pub IsRegionOf : {T : Type 0} → DesktopOf T → ℕ → Region → Type 0
IsRegionOf d y Filler = ⊤
IsRegionOf d y (Menu v) = IsOnTop v d.columns
IsRegionOf d y (Bar v) = IsOnTop v d.columns × (frame_row d v y < rows_of d v)
IsRegionOf d y (Body v) = IsOnTop v d.columns × (frame_row d v y < rows_of d v)
