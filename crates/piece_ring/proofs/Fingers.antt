-- The piece that the finger is on, and positions within it.
use Rattle.std.proofs.Common.{◌≡◌, ℕ, zero, suc, ◌-◌, ◌<◌, ◌≤◌, List, length, drop, slice_get, Some}
use Rattle.std.proofs.Common.{refl, sym, ap, subst, ◌∙◌, arith}
use denote.RawPtr.{Ptr}
use Rattle.piece_ring.specs.declared.piece.Piece.{Piece}
use Rattle.piece_ring.specs.declared.place.Found.{Found}
use Rattle.piece_ring.specs.declared.place.Seam.{Seam}
use Rattle.piece_ring.specs.Cursor.{shortened, IsCursor}
use Rattle.piece_ring.specs.Finger.{PointsAt}
use Rattle.piece_ring.specs.Flat.{flat}
use Rattle.piece_ring.specs.Nodes.{places, pieces}
use Rattle.piece_ring.specs.Place.{pieces_of, text_along, IsSeam, IsFound, HasWithin}
use Rattle.piece_ring.specs.PieceList.{IsPieceList}
use Rattle.piece_ring.proofs.Keeping.{started, piece_long, seam-back}
use Rattle.piece_ring.proofs.Moving.{seam_inside}
use Rattle.piece_ring.proofs.Places.{exists_at}
use Rattle.piece_ring.proofs.Walking.{at_found, found-text, found-whole}

module _ (ns : List (Ptr × Piece)) (pos : ℕ) (s : Seam) (g : IsSeam ns s) where
  -- the finger is on no piece of the position where it stands at the position or before it
  pub ends_before : pos < length (text_along ns) → s.pos ≤ pos → PointsAt (pieces_of ns) s.index pos → ⊥
  ends_before within low p = at s.index refl
    where
      at : (i : ℕ) → s.index ≡ i → ⊥
      at zero e = let end = p.end e in omega (arith, within)
      at (suc i) e = let high = p.upto (omega (arith, e)) in let upto = g.upto in omega (arith, low)

  module _ (x : Piece) (is : slice_get (pieces ns) s.index ≡ Some x) where
    -- nor where the piece before the seam begins behind it
    pub begins_behind : pos < s.pos → pos < s.pos - x.len → PointsAt (pieces_of ns) s.index pos → ⊥
    begins_behind high behind p =
        let some : 0 < s.pos = omega (arith, high) in
        let long = piece_long ns s x g some is in let from = p.from (started ns s x g some is) in
        omega (arith, behind)

    -- else that piece has it
    pub within_piece : pos < s.pos → s.pos - x.len ≤ pos → HasWithin ns s pos (pos - (s.pos - x.len))
    within_piece high low =
        let some : 0 < s.pos = omega (arith, high) in let long = piece_long ns s x g some is in
        record {
          piece = x;
          is = is;
          ends = omega (arith, high, low);
          inside = omega (arith, high, low);
          from = omega (arith, low);
        }

  -- a cursor before a position that the piece has
  module _ (w : ℕ) (h : HasWithin ns s pos w) (trailer : Ptr) (count len : ℕ)
      (v : IsPieceList ns trailer count len) where
    some_before : 0 < s.pos
    some_before = let ends = h.ends in let inside = h.inside in omega arith

    spot : (q : Ptr) × (slice_get (places ns) (s.index - 1) ≡ Some q)
    spot = exists_at ns (s.index - 1) (let i = seam_inside ns s g in omega arith)

    abbrev before : Seam
    before = record { at = record { ptr = spot.0 }; index = s.index - 1; pos = s.pos - h.piece.len }

    before_is : IsSeam ns before
    before_is = seam-back ns s h.piece g some_before h.is before (λ _. spot.1) refl refl

    abbrev there : Found
    there = record { before = before; after = s; links = 0 }

    there_is : IsFound ns pos there
    there_is =
        let ends = h.ends in let inside = h.inside in let from = h.from in
        let low = started ns s h.piece g some_before h.is in let i = seam_inside ns s g in
        record {
          before = before_is;
          after = g;
          next = omega arith;
          from = omega arith;
          upto = omega arith;
          few = omega arith;
        }

    passed : pos - (s.pos - h.piece.len) ≡ w
    passed = let ends = h.ends in let inside = h.inside in let from = h.from in omega arith

    pub at_finger : IsCursor ns s.at.ptr s.index w 0
    at_finger = subst (λ n. IsCursor ns s.at.ptr s.index n 0) passed
        (at_found ns trailer count len pos v there there_is)

    pub finger-text : flat (shortened w (drop s.index (pieces ns))) ≡ drop pos (text_along ns)
    finger-text = ap (λ n. flat (shortened n (drop s.index (pieces ns)))) (sym passed)
        ∙ found-text ns trailer count len pos v there there_is

    pub finger-whole : pos ≡ 0 → shortened w (drop s.index (pieces ns)) ≡ pieces_of ns
    finger-whole z = ap (λ n. shortened n (drop s.index (pieces ns))) (sym passed)
        ∙ found-whole ns trailer count len pos v there there_is z
