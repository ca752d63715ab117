-- Which frames can be moved, and by which changes of their texts.
use Rattle.std.specs.Prelude.{◌≡◌, ◌⊎◌, ◌+◌, ◌<◌, ◌≤◌, ℕ, List, length, IsSome}
use Rattle.piece_ring.specs.Flat.{flat}
use Rattle.piece_ring.specs.Text.{AreWithin}
use Rattle.piece_ring.specs.declared.piece.Piece.{Piece}
use Rattle.desktop_definitions.specs.declared.viewer.Viewer.{Viewer}
use Rattle.desktop_definitions.specs.Tables.{Texts, text_numbered}
use Rattle.desktop_definitions.specs.Viewers.{text_in}
use Rattle.desk_core.specs.declared.viewers.TextChange.{TextChange}

-- the frame of a viewer's main text can be moved where there are n characters
pub record IsMovable (n : ℕ) (texts : Texts (List Piece)) (viewer : Viewer) : Type 0 where
  pub there : IsSome (text_numbered texts viewer.main)
  pub org : viewer.org ≤ length (flat (text_in texts viewer.main))
  pub offsets : AreWithin n (flat (text_in texts viewer.main))

-- What a change has made of a text that has so many characters then: some came in, or some went out.
pub record IsChangeOf (change : TextChange) (long : ℕ) : Type 0 where
  pub one : (change.more ≡ 0) ⊎ (change.fewer ≡ 0)
  pub some : 0 < change.more + change.fewer
  pub place : change.pos + change.more ≤ long
