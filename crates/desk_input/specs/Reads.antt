-- Where a call reads or edits a desktop over the source of its characters: what it asks of the place.
use Rattle.std.specs.Prelude.{◌<◌, ℕ, List}
use Rattle.desktop_definitions.specs.Desktop.{KeptDesktop}
use Rattle.desktop_definitions.specs.Viewers.{rows_of}
use Rattle.desk_core.specs.Words.{IsOnTop, IsOver, IsPosition}
pub use Rattle.desk_core.specs.Reads.{TellsValue}

-- A row of the main frame of a viewer in a track that is shown, counted from the frame's top, of a desktop over these
-- characters.
pub record IsMainRow (characters : List ℕ) (d : KeptDesktop) (v row : ℕ) : Type 0 where
  pub over : IsOver characters d
  pub placed : IsOnTop v d.columns
  pub within : row < rows_of d v

-- A position of the main text of a viewer in such a track, of a desktop over these characters.
pub record IsMainPlace (characters : List ℕ) (d : KeptDesktop) (v p : ℕ) : Type 0 where
  pub over : IsOver characters d
  pub at : IsPosition d v p
