-- Viewers on their way to the screen.
use Rattle.std.specs.Prelude.{ℕ, List, IsSome}
use Rattle.piece_ring.specs.declared.piece.Piece.{Piece}
use Rattle.text_frames.specs.declared.frame.Frame.{Frame}
use Rattle.screen_cells.specs.declared.shown.Shown.{Shown}
use Rattle.desktop_definitions.specs.declared.viewer.Viewer.{Viewer}
use Rattle.desktop_definitions.specs.Desktop.{KeptDesktop}
use Rattle.desktop_definitions.specs.Tables.{text_numbered}
use Rattle.desktop_definitions.specs.Viewers.{text_in}
use Rattle.desktop_definitions.specs.Shown.{caret_position, selection_in}

-- a viewer with the pieces of its texts, the number of its menu text, and its main frame
pub record KeptView : Type 0 where
  pub id : ℕ
  pub menu_text : ℕ
  pub menu : List Piece
  pub main : List Piece
  pub frame : Frame

-- as the desktop has it
abbrev pub view_in : KeptDesktop → ℕ × Viewer → KeptView
view_in d e = record {
  id = e.0;
  menu_text = e.1.menu;
  menu = text_in d.texts e.1.menu;
  main = text_in d.texts e.1.main;
  frame = record {
    text = e.1.main;
    org = e.1.org;
    caret = caret_position e.0 d.caret;
    selection = selection_in d.selections e.0;
  };
}

-- as it is handed to the screen
abbrev pub kept_view : Shown → KeptView
kept_view s = record {
  id = s.id.0;
  menu_text = s.menu_text;
  menu = s.menu.now;
  main = s.main.now;
  frame = s.frame;
}

-- both texts of a viewer are there
abbrev pub AreThere : KeptDesktop → ℕ × Viewer → Type 0
AreThere d e = IsSome (text_numbered d.texts e.1.menu) × IsSome (text_numbered d.texts e.1.main)
