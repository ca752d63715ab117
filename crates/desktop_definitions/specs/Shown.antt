-- What a desktop shows on the display.
use Rattle.std.specs.Prelude.{ℕ, ◌+◌, ◌==◌, if◌then◌else◌, List, map, Option, Some, None, option_map}
use Rattle.std.specs.List.{position_or_len, find}
use Rattle.text_frames.specs.declared.frame.Frame.{Frame}
use Rattle.text_frames.specs.declared.frame.FrameSelection.{FrameSelection}
use Rattle.screen_pictures.specs.declared.cell.Cell.{Cell}
use Rattle.screen_pictures.specs.Picture.{picture, Painted}
use Rattle.screen_pictures.specs.Screen.{screen_of}
use Rattle.desktop_definitions.specs.Words.{Viewer, Caret, Selection}
use Rattle.desktop_definitions.specs.Desktop.{DesktopOf, Desktop}
use Rattle.desktop_definitions.specs.Viewers.{text_of}

-- the caret's position, where it stands in that viewer
abbrev pub caret_position : ℕ → Option Caret → Option ℕ
caret_position v None = None
caret_position v (Some c) = if c.viewer == v then Some c.position else None

-- the rank of a selection by age is its place among all, 1 the oldest
abbrev pub ranked : List Selection → Selection → FrameSelection
ranked selections s = record {
  beg = s.beg;
  end = s.end;
  rank = position_or_len (λ t. t.viewer == s.viewer) selections + 1;
}

abbrev pub selection_in : List Selection → ℕ → Option FrameSelection
selection_in selections v = option_map (ranked selections) (find (λ s. s.viewer == v) selections)

-- the main frame of a viewer
abbrev pub frame_of : {T : Type 0} → DesktopOf T → ℕ × Viewer → Frame
frame_of d e = record {
  text = e.1.main;
  org = e.1.org;
  caret = caret_position e.0 d.caret;
  selection = selection_in d.selections e.0;
}

-- a viewer with its texts and its main frame
abbrev pub painted : Desktop → ℕ × Viewer → Painted
painted d e =
    record { id = e.0; menu = text_of d e.1.menu; main = text_of d e.1.main; frame = frame_of d e }

unfoldable pub shown_screen : Desktop → List (List Cell)
shown_screen d = screen_of (picture d.columns (map (painted d) d.viewers) d.marker)
