-- A ring as its callers see it: its pieces, and its finger, a place from which walks start.
use Rattle.std.specs.Prelude.{ℕ, ◌-◌, ◌<◌, ◌≤◌, ◌≡◌, List, length, take}
use denote.RawPtr.{Ptr}
use Rattle.piece_ring.specs.declared.piece.Piece.{Piece}
use Rattle.piece_ring.specs.declared.place.Seam.{Seam}
use Rattle.piece_ring.specs.Flat.{flat}
use Rattle.piece_ring.specs.FingeredPieces.{FingeredPieces}
use Rattle.piece_ring.specs.Merging.{IsMergedAt}
use Rattle.piece_ring.specs.Place.{pieces_of}

-- the finger is on the piece that holds the position, or on the trailer where the position is the end
pub record PointsAt (ps : List Piece) (finger pos : ℕ) : Type 0 where
  -- it is on the trailer at the end alone
  pub end : finger ≡ 0 → pos ≡ length (flat ps)
  -- the piece begins at the position or before it
  pub from : 0 < finger → length (flat (take (finger - 1) ps)) ≤ pos
  -- and ends after it
  pub upto : 0 < finger → pos < length (flat (take finger ps))

abbrev pub IsFingerAt : FingeredPieces → ℕ → Type 0
IsFingerAt r pos = PointsAt r.pieces r.finger pos

-- what an edit leaves at the position where it begins
pub record SettlesAt (ps : List Piece) (index pos : ℕ) : Type 0 where
  -- the finger is there
  pub finger : PointsAt ps index pos
  -- and no two neighbours that meet there could be one piece
  pub merged : IsMergedAt ps pos

abbrev pub IsSettledAt : FingeredPieces → ℕ → Type 0
IsSettledAt r pos = SettlesAt r.pieces r.finger pos

-- the nodes of a ring, whose finger is on the piece before the seam, or on the trailer, and whose edits have followed so
-- many links
abbrev pub ringed : List (Ptr × Piece) → Seam → ℕ → FingeredPieces
ringed ns s n = record { pieces = pieces_of ns; finger = s.index; followed = n }

abbrev pub fingered : List (Ptr × Piece) → Seam → FingeredPieces
fingered ns s = ringed ns s 0
