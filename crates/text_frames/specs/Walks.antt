-- What calls ask that walk over a text.
use Rattle.std.specs.Prelude.{ℕ, ◌≤◌, List, length}
use Rattle.piece_ring.specs.Text.{Text, AreWithin}

-- The first position doesn't come after the last one, which is in the text, and the characters have the text's offsets.
pub record CanWalk (characters : List ℕ) (text : Text ℕ) (from upto : ℕ) : Type 0 where
  pub order : from ≤ upto
  pub within : upto ≤ length text
  pub offsets : AreWithin (length characters) text
