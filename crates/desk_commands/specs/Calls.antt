-- What a command asks of the desktop where it is called.
use Rattle.std.specs.Prelude.{◌≤◌, ℕ, List, length}
use Rattle.piece_ring.specs.Flat.{flat}
use Rattle.viewer_tracks.specs.Columns.{IsOnTop}
use Rattle.desktop_definitions.specs.declared.call.Call.{Call}
use Rattle.desktop_definitions.specs.Desktop.{KeptDesktop}
use Rattle.desktop_definitions.specs.Sound.{IsOver}
use Rattle.desktop_definitions.specs.Call.{text_called}

-- The viewer of a call stands in a track that is shown, of a desktop over these characters, and the word that was
-- called in its text.
pub record IsCall (characters : List ℕ) (d : KeptDesktop) (call : Call) : Type 0 where
  pub placed : IsOnTop call.viewer d.columns
  pub within : call.after ≤ length (flat (text_called d call.viewer call.in_menu))
  pub over : IsOver characters d

-- A viewer in a track that is shown, of a desktop over these characters.
pub record IsViewerOnTop (characters : List ℕ) (d : KeptDesktop) (v : ℕ) : Type 0 where
  pub placed : IsOnTop v d.columns
  pub over : IsOver characters d
