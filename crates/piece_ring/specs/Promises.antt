-- What the calls of a ring ask and promise, and those of what is made of a ring.
use Rattle.std.specs.Prelude.{ℕ, ◌+◌, ◌^◌, ◌<◌, ◌≤◌, ◌≡◌, List, length, take, drop, Result, MatchResult}
use Rattle.piece_ring.specs.declared.piece.Piece.{Piece}
use Rattle.piece_ring.specs.Flat.{flat, IsWhole}
use Rattle.piece_ring.specs.FingeredPieces.{Walk, BackWalk}
use Rattle.piece_ring.specs.Text.{Text}

-- what a call changes to this value, which stays where memory is refused
abbrev pub ChangesTo : {A T E : Type 0} → A → Result T E → A → A → Type 0
ChangesTo wanted result old new = MatchResult result (λ _. new ≡ wanted) (λ _. new ≡ old)

-- The piece has a character, and fits behind these.
pub record HasRoomFor (piece : Piece) (pieces : List Piece) : Type 0 where
  pub whole : IsWhole piece
  pub fits : length (flat pieces) + piece.len < 2 ^ 32

-- Characters of a text that stand together: those from beg up to before end.
pub record IsStretchOf (beg end : ℕ) (text : Text ℕ) : Type 0 where
  pub order : beg ≤ end
  pub within : end ≤ length text

-- A cursor stands before the character at the position, or at the end.
pub record IsCursorAt (pos : ℕ) (pieces : List Piece) (cursor : Walk) : Type 0 where
  pub text : flat cursor.left ≡ drop pos (flat pieces)
  -- at the beginning it has the pieces as they are
  pub whole : pos ≡ 0 → cursor.left ≡ pieces
  -- it was reached along no more links than there are pieces
  pub few : cursor.walked ≤ length pieces
  -- and no more than these
  pub short : cursor.walked ≤ 128

-- A cursor that goes backwards stands after the first characters.
pub record IsBackCursorAt (pos : ℕ) (pieces : List Piece) (cursor : BackWalk) : Type 0 where
  pub text : cursor.text ≡ take pos (flat pieces)
  -- it was reached along no more links than these
  pub short : cursor.walked ≤ 128
