-- Positions in texts on the display, and characters on their way there.
use Rattle.std.specs.Prelude.{ℕ, List, IsSome, length, ◌+◌, ◌<◌, ◌≤◌, ◌^◌}
use Rattle.piece_ring.specs.declared.piece.Piece.{Piece}
use Rattle.piece_ring.specs.Flat.{flat}
use Rattle.piece_ring.specs.Text.{AreWithin, Text}
use Rattle.viewer_tracks.specs.Columns.{IsOnTop}
use Rattle.desktop_definitions.specs.Desktop.{KeptDesktop}
use Rattle.desktop_definitions.specs.Looks.{AreLooks}
use Rattle.desktop_definitions.specs.Sound.{IsBuilt}
use Rattle.desktop_definitions.specs.Tables.{text_numbered}
use Rattle.desktop_definitions.specs.Viewers.{kept_main, text_in}

-- a position in the main text of a viewer in a track that is shown
pub record IsPosition (d : KeptDesktop) (v p : ℕ) : Type 0 where
  pub placed : IsOnTop v d.columns
  pub place : p ≤ length (flat (kept_main d v))

-- the same of a desktop that is built over n characters
pub record IsOpenAt (n : ℕ) (d : KeptDesktop) (v p : ℕ) : Type 0 where
  pub built : IsBuilt n d
  pub stands : IsPosition d v p

-- a position in the text of a number, of a desktop that is built over n characters
pub record IsTextPosition (n : ℕ) (d : KeptDesktop) (number p : ℕ) : Type 0 where
  pub built : IsBuilt n d
  pub there : IsSome (text_numbered d.texts number)
  pub place : p ≤ length (flat (text_in d.texts number))

-- characters that can go into a text: each is one of the first n, and has a look that there is
pub record CanJoin (n : ℕ) (text : Text ℕ) (buffer : List Piece) : Type 0 where
  pub short : length text + length (flat buffer) < 2 ^ 32
  pub within : AreWithin n (flat buffer)
  pub looks : AreLooks (flat buffer)

-- characters that can go into the main text of a viewer: each is one of the first n, and has a look that there is
pub record CanGo (n : ℕ) (d : KeptDesktop) (v : ℕ) (buffer : List Piece) : Type 0 where
  pub short : length (flat (kept_main d v)) + length (flat buffer) < 2 ^ 32
  pub within : AreWithin n (flat buffer)
  pub looks : AreLooks (flat buffer)
