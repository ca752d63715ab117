-- Tables of marks over an edit in their window, and lists with few pieces or none.
use Rattle.std.proofs.Common.{◌≡◌, ℕ, zero, suc, ◌+◌, ◌-◌, ◌<◌, ◌≤◌, ◌^◌, List, [], ◌∷◌, ◌++◌, length, take, drop, slice_get, Some}
use Rattle.std.proofs.Common.{refl, sym, ap, subst, ◌∙◌, arith, append-nil}
use Rattle.std.proofs.lemmas.List.{take_all}
use denote.RawPtr.{Ptr}
use Rattle.piece_ring.specs.declared.chain.Spot.{Spot}
use Rattle.piece_ring.specs.declared.piece.Piece.{Piece}
use Rattle.piece_ring.specs.declared.place.Seam.{Seam}
use Rattle.piece_ring.specs.declared.table.Table.{Table}
use Rattle.piece_ring.specs.Finger.{IsFingerAt, fingered}
use Rattle.piece_ring.specs.Flat.{flat}
use Rattle.piece_ring.specs.Nodes.{places, pieces}
use Rattle.piece_ring.specs.Place.{pieces_of, text_along, IsSeam}
use Rattle.piece_ring.specs.PieceList.{IsPieceList, IsStretch}
use Rattle.piece_ring.specs.Table.{AreSeamMarks, IsMeasured, IsNoted, IsWindowOpened, IsTable, IsTableParted, back_of}
use Rattle.piece_ring.specs.Table.{front_of}
use Rattle.piece_ring.proofs.Keeping.{index_within, kept-joined}
use Rattle.piece_ring.proofs.Marks.{kept-marks, kept-parted, start_is}
use Rattle.piece_ring.proofs.Merging.{same_index, kept-found}
use Rattle.piece_ring.proofs.Moving.{seam_inside, joined-list, joined-text, taken-pieces, taken-text}
use Rattle.piece_ring.proofs.Runs.{length-flat-take-le}
use Rattle.piece_ring.proofs.Seams.{piece_count}
use Rattle.piece_ring.proofs.Tables.{empty_table}

-- an edit of the nodes after that of index a up to that of index b, which have no marks
pub kept-table : (ns ms : List (Ptr × Piece)) (t : Table) (a b : ℕ) (mid : List (Ptr × Piece)) → a ≤ b
    → b < length ns → IsWindowOpened ns t a b → ms ≡ take (a + 1) ns ++ (mid ++ drop (b + 1) ns) → IsTableParted ms t
kept-table ns ms t a b mid order w o made = record {
  parted = kept-parted ns ms (front_of t) (back_of t) a b mid order w o.moved made;
  noted = o.noted;
}

-- an edit after which each seam is a seam still
pub kept-seams : (ns ms : List (Ptr × Piece)) (t : Table) (count len : ℕ) → IsMeasured ns count len
    → IsMeasured ms count len → ((s : Seam) → IsSeam ns s → IsSeam ms s) → IsTable ns t → IsTable ms t
kept-seams ns ms t count len v w stays h = record {
  marks = kept-marks ns ms (front_of t) (back_of t) count len v w stays h.marks;
  noted = h.noted;
}

-- more memory for marks
pub kept-reserved : (ns : List (Ptr × Piece)) (t u : Table) → front_of u ≡ front_of t → back_of u ≡ back_of t
    → (IsNoted t → IsNoted u) → IsTable ns t → IsTable ns u
kept-reserved ns t u e f noted h = record {
  marks = subst (λ l. AreSeamMarks ns l (back_of u)) (sym e)
      (subst (λ l. AreSeamMarks ns (front_of t) l) (sym f) h.marks);
  noted = noted h.noted;
}

-- no pieces
none : (ps : List Piece) → length ps ≡ 0 → ps ≡ []
none [] w = refl
none (p ∷ ps) w = absurd (omega (arith, w))

-- What comes of an empty list when pieces are put into it.
pub record IsPut (ns : List (Ptr × Piece)) (trailer : Ptr) (os : List (Ptr × Piece)) (more long : ℕ)
    (ms : List (Ptr × Piece)) : Type 0 where
  pub list : IsPieceList ms trailer more long
  pub text : text_along ms ≡ flat (pieces os)
  pub seam : (s : Seam) → IsSeam ns s → IsSeam ms s
  pub table : (t : Table) → IsTable ns t → IsTableParted ms t

pub all_put : {ns os ms : List (Ptr × Piece)} (at : Spot) {first : Ptr} {count len more long : ℕ}
    → IsPieceList ns at.ptr count len → count ≡ 0 → IsStretch os first more long
    → ms ≡ take 1 ns ++ os ++ drop 1 ns → IsPut ns at.ptr os more long ms
all_put {ns} {os} {ms} at {first} {count} {len} {more} {long} v empty o made =
    let counted = v.counted in let one : length ns ≡ 1 = omega (arith, empty) in
    let bare : pieces_of ns ≡ [] = none (pieces_of ns) (piece_count ns at.ptr count len v ∙ empty) in
    let nothing : len ≡ 0 = sym v.measured ∙ ap (λ l. length (flat l)) bare in
    let s : Seam = record { at = at; index = 0; pos = 0 } in
    let h : IsSeam ns s = (start_is at v).seam in
    let small = o.small in let fits : len + long < 2 ^ 32 = omega (arith, nothing) in
    let list = joined-list ns at.ptr count len v s h os first more long o fits ms made in
    let a : count + more ≡ more = omega (arith, empty) in let b : len + long ≡ long = omega (arith, nothing) in
    let size = list.counted in
    record {
      list = subst (λ n. IsPieceList ms at.ptr n long) a (subst (λ n. IsPieceList ms at.ptr (count + more) n) b list);
      text = joined-text ns at.ptr count len v s h os first more long o fits ms made
          ∙ ap (λ l. flat (pieces os) ++ flat l) bare ∙ append-nil (flat (pieces os));
      seam = λ t g. let w = seam_inside ns t g in let z : 0 ≡ t.index = omega (arith, one, w) in
          kept-joined ns t g os ms (subst (λ i. ms ≡ take (i + 1) ns ++ os ++ drop (i + 1) ns) z made);
      table = λ t g. empty_table ns ms t g one (omega (arith, size));
    }

-- What comes of the nodes of a list when all its pieces are taken out.
pub record AreAllTaken (ns : List (Ptr × Piece)) (first : Ptr) (count len : ℕ) (bs : List (Ptr × Piece)) : Type 0 where
  pub stretch : IsStretch bs first count len
  pub text : flat (pieces bs) ≡ text_along ns

-- a number that isn't at least another is less
less : (a b : ℕ) → (b ≤ a → ⊥) → a < b
less a b wrong = by_rest (b - a) refl
  where
    by_rest : (n : ℕ) → b - a ≡ n → a < b
    by_rest zero e = absurd (wrong (omega (arith, e)))
    by_rest (suc n) e = omega (arith, e)

module _ {ns : List (Ptr × Piece)} {count len : ℕ} (at : Spot) (v : IsPieceList ns at.ptr count len) where
  -- where there are characters there are pieces
  pub some_pieces : 0 < len → 0 < count
  some_pieces some = less 0 count (λ w.
      let bare = none (pieces_of ns) (let n = piece_count ns at.ptr count len v in omega (arith, n, w)) in
      let nothing : len ≡ 0 = sym v.measured ∙ ap (λ l. length (flat l)) bare in omega (arith, some, nothing))

  whole_text : length (flat (take count (pieces_of ns))) ≡ len
  whole_text = let n = piece_count ns at.ptr count len v in
      ap (λ l. length (flat l)) (take_all count (pieces_of ns) (omega (arith, n))) ∙ v.measured

  pub all_taken : (last : Spot) → slice_get (places ns) count ≡ Some last.ptr → 0 < len → (bs : List (Ptr × Piece))
      → bs ≡ drop 1 (take (count + 1) ns) → (first : Ptr)
      → (1 < length ns → slice_get (places ns) 1 ≡ Some first) → AreAllTaken ns first count len bs
  all_taken last h some bs taken first following =
      let s : Seam = record { at = at; index = 0; pos = 0 } in
      let t : Seam = record { at = last; index = count; pos = len } in
      let a : IsSeam ns s = (start_is at v).seam in
      let b : IsSeam ns t = record { place = h; upto = whole_text } in
      let i : count - 0 ≡ count = omega arith in let p : len - 0 ≡ len = omega arith in
      record {
        stretch = subst (λ n. IsStretch bs first n len) i (subst (λ n. IsStretch bs first (count - 0) n) p
            (taken-pieces ns at.ptr count len v s t a b some bs taken first following));
        text = taken-text ns at.ptr count len v s t a b some bs taken
            ∙ take_all (len - 0) (text_along ns) (let m = v.measured in omega (arith, m, p));
      }

  module _ (s : Seam) (h : IsSeam ns s) where
    -- a seam with a piece behind it is before the text's end, and another one at it
    pub more_behind : (s.index ≡ count → ⊥) → s.pos < len
    more_behind not_last = less s.pos len (λ w.
        let n = piece_count ns at.ptr count len v in let upto = h.upto in let inside = index_within ns s h in
        let most = length-flat-take-le (pieces_of ns) s.index count (omega (arith, inside, n)) in
        let all = whole_text in
        not_last (same_index (pieces_of ns) v.whole s.index count inside (omega (arith, n))
        (omega (arith, w, upto, all, most))))

    pub at_last : s.index ≡ count → s.pos ≡ len
    at_last e = sym h.upto ∙ ap (λ n. length (flat (take n (pieces_of ns)))) e ∙ whole_text

    -- the seam after the piece that follows has the piece of its position
    pub finger_next : (t : Seam) → IsSeam ns t → t.index ≡ s.index + 1 → IsFingerAt (fingered ns t) s.pos
    finger_next t g after =
        let inside = index_within ns s h in let within = index_within ns t g in let a = h.upto in let b = g.upto in
        let most = length-flat-take-le (pieces_of ns) s.index t.index (omega (arith, after)) in
        kept-found ns at.ptr count len v s.pos (record { before = s; after = t; links = 0 }) (record {
          before = h;
          after = g;
          next = after;
          from = omega arith;
          upto = less s.pos t.pos (λ w.
              let same = same_index (pieces_of ns) v.whole s.index t.index inside within
              (omega (arith, w, a, b, most)) in omega (arith, same, after));
          few = let w = seam_inside ns t g in omega (arith, w, after);
        })
