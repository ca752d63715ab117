-- The place of a cursor that goes backwards, and what stands before it.
use Rattle.std.specs.Prelude.{ℕ, ◌+◌, ◌<◌, ◌^◌, List, ◌++◌, take}
use denote.RawPtr.{Ptr}
use Rattle.piece_ring.specs.declared.piece.Piece.{Piece}
use Rattle.piece_ring.specs.declared.place.Seam.{Seam}
use Rattle.piece_ring.specs.FingeredPieces.{BackWalk}
use Rattle.piece_ring.specs.Flat.{flat, characters_of}
use Rattle.piece_ring.specs.Place.{pieces_of, IsSeam}
use Rattle.piece_ring.specs.Text.{Text}

-- it stands after the front of a piece, or at the seam before it where the front has no characters
pub record IsBackCursor (ns : List (Ptr × Piece)) (before : Seam) (front : Piece) : Type 0 where
  pub seam : IsSeam ns before
  pub fits : front.off + front.len < 2 ^ 32

-- the characters up to the seam, and then those of the front
abbrev pub text_before : List (Ptr × Piece) → Seam → Piece → Text ℕ
text_before ns before front = flat (take before.index (pieces_of ns)) ++ characters_of front

-- what a clause sees of the cursor, to which so many links led
abbrev pub walk_before : List (Ptr × Piece) → Seam → Piece → (walked since : ℕ) → BackWalk
walk_before ns before front walked since =
    record { text = text_before ns before front; walked = walked; since = since }
