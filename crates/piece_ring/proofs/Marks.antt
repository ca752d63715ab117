-- Stacks of marks: how they grow, shrink and are moved.
use Rattle.std.proofs.Common.{◌≡◌, ℕ, zero, suc, ◌+◌, ◌-◌, ◌*◌, ◌<◌, ◌≤◌, ◌^◌, ◌⊎◌, inl, inr, List, [], ◌∷◌}
use Rattle.std.proofs.Common.{◌++◌, length, take, drop}
use Rattle.std.proofs.Common.{slice_get, slice_index_or, Some, unwrap_or, All, refl, sym, ap, subst, ◌∙◌, arith}
use Rattle.std.proofs.Common.{add-one, append_assoc, length-append, length-drop}
use Rattle.std.proofs.Math.Seq.{drop-append-add}
use Rattle.std.proofs.lemmas.List.{map-append, length-map, length-take-le, take-append-drop}
use Rattle.std.proofs.lemmas.List.Elements.{All-append, All-take, All-drop}
use Rattle.std.proofs.lemmas.Option.{slice_get_within, unwrap_or-slice_get}
use denote.RawPtr.{Ptr}
use Rattle.piece_ring.specs.declared.piece.Piece.{Piece}
use Rattle.piece_ring.specs.declared.chain.Spot.{Spot}
use Rattle.piece_ring.specs.declared.place.Seam.{Seam}
use Rattle.piece_ring.specs.declared.place.Found.{Found}
use Rattle.piece_ring.specs.declared.table.Mark.{Mark}
use Rattle.piece_ring.specs.Flat.{flat, IsWhole}
use Rattle.piece_ring.specs.Nodes.{places, pieces, with_piece}
use Rattle.piece_ring.specs.Place.{pieces_of, IsSeam, IsFound}
use Rattle.piece_ring.specs.PieceList.{IsPieceList}
use Rattle.piece_ring.specs.Table.{top, past_top, seam_of, mark_of_seam, AreNear, IsBack, IsMeasured, IsWalkStart, IsParted}
use Rattle.piece_ring.specs.Table.{AreSeamMarks, IsEdgeMoved, IsAround, turned, turned_seam}
use Rattle.piece_ring.proofs.Earlier.{seam-before, seam_order, take-with-node, drop-with-past}
use Rattle.piece_ring.proofs.Joins.{pieces-append}
use Rattle.piece_ring.proofs.Keeping.{get-append, index_within, started, seam-back}
use Rattle.piece_ring.proofs.Looks.{drop-drop}
use Rattle.piece_ring.proofs.Moving.{seam_inside, take-take}
use Rattle.piece_ring.proofs.Places.{exists_at}
use Rattle.piece_ring.proofs.Runs.{length-flat-cut}
use Rattle.piece_ring.proofs.Seams.{seam_within, count_fits}

-- a list's elements
pub all_at : {X : Type 0} (P : X → Type 0) (xs : List X) (k : ℕ) (x : X) → All P xs → slice_get xs k ≡ Some x → P x
all_at P xs k x w e = subst P (sym (unwrap_or-slice_get xs k x) ∙ ap (λ o. unwrap_or o x) e)
    (w k x (slice_get_within xs k x e))

all_one : {X : Type 0} (P : X → Type 0) (x : X) → P x → All P (x ∷ [])
all_one P x h zero d w = h
all_one P x h (suc k) d w = absurd (omega (arith, w))

pub all_push : {X : Type 0} (P : X → Type 0) (xs : List X) (x : X) → All P xs → P x → All P (xs ++ x ∷ [])
all_push P xs x h p = All-append P xs (x ∷ []) h (all_one P x p)

all_rest : {X : Type 0} (P : X → Type 0) (x : X) (xs : List X) → All P (x ∷ xs) → All P xs
all_rest P x xs h k d w = h (suc k) d (omega (arith, w))

pub all_front : {X : Type 0} (P : X → Type 0) (xs : List X) (x : X) → All P (xs ++ x ∷ []) → All P xs
all_front P [] x h k d w = absurd (omega (arith, w))
all_front P (y ∷ xs) x h zero d w = h zero d (omega arith)
all_front P (y ∷ xs) x h (suc k) d w = all_front P xs x (all_rest P y (xs ++ x ∷ []) h) k d (omega (arith, w))

pub all_last : {X : Type 0} (P : X → Type 0) (xs : List X) (x : X) → All P (xs ++ x ∷ []) → P x
all_last P [] x h = h zero x (omega arith)
all_last P (y ∷ xs) x h = all_last P xs x (all_rest P y (xs ++ x ∷ []) h)

pub length-push : {X : Type 0} (xs : List X) (x : X) → length (xs ++ x ∷ []) ≡ length xs + 1
length-push xs x = length-append xs (x ∷ [])

-- a mark more
pub top-push : (i : ℕ) (ms : List Mark) (m : Mark) → top i (ms ++ m ∷ []) ≡ m.index
top-push i [] m = refl
top-push i (x ∷ ms) m = top-push x.index ms m

-- each is near the one before it, from the first on
abbrev Follows : ℕ → List Mark → Type 0
Follows i [] = Unit
Follows i (m ∷ ms) = (i ≤ m.index) × (m.index ≤ i + 128) × Follows m.index ms

follows : (i : ℕ) (ms : List Mark) → AreNear i ms → Follows i ms
follows i [] n = tt
follows i (x ∷ ms) n = let here = n zero x refl in (here.0, here.1, follows x.index ms (λ k m e. n (suc k) m e))

near : (i : ℕ) (ms : List Mark) → Follows i ms → AreNear i ms
near i [] n k m e = cc
near i (x ∷ ms) n zero m e = let is : x ≡ m = cc in let same = ap (λ (z : Mark). z.index) is in let a = n.0 in
    let b = n.1 in (omega arith, omega arith)
near i (x ∷ ms) n (suc k) m e = near x.index ms n.2 k m e

follows-push : (i : ℕ) (ms : List Mark) (m : Mark) → Follows i ms → top i ms ≤ m.index → m.index ≤ top i ms + 128
    → Follows i (ms ++ m ∷ [])
follows-push i [] m n a b = (a, b, tt)
follows-push i (x ∷ ms) m n a b = (n.0, n.1, follows-push x.index ms m n.2 a b)

pub near-push : (i : ℕ) (ms : List Mark) (m : Mark) → AreNear i ms → top i ms ≤ m.index → m.index ≤ top i ms + 128
    → AreNear i (ms ++ m ∷ [])
near-push i ms m n a b = near i (ms ++ m ∷ []) (follows-push i ms m (follows i ms n) a b)

-- a mark less
follows-front : (i : ℕ) (ms : List Mark) (m : Mark) → Follows i (ms ++ m ∷ []) → Follows i ms
follows-front i [] m n = tt
follows-front i (x ∷ ms) m n = (n.0, n.1, follows-front x.index ms m n.2)

pub near-front : (i : ℕ) (ms : List Mark) (m : Mark) → AreNear i (ms ++ m ∷ []) → AreNear i ms
near-front i ms m n = near i ms (follows-front i ms m (follows i (ms ++ m ∷ []) n))

follows-last : (i : ℕ) (ms : List Mark) (m : Mark) → Follows i (ms ++ m ∷ []) → (top i ms ≤ m.index)
    × (m.index ≤ top i ms + 128)
follows-last i [] m n = (n.0, n.1)
follows-last i (x ∷ ms) m n = follows-last x.index ms m n.2

pub near-last : (i : ℕ) (ms : List Mark) (m : Mark) → AreNear i (ms ++ m ∷ []) → (top i ms ≤ m.index)
    × (m.index ≤ top i ms + 128)
near-last i ms m n = follows-last i ms m (follows i (ms ++ m ∷ []) n)

top_least : (i : ℕ) (ms : List Mark) → Follows i ms → i ≤ top i ms
top_least i [] n = omega arith
top_least i (x ∷ ms) n = let r = top_least x.index ms n.2 in let a = n.0 in omega arith

-- the last mark is past the others
follows_top : (i : ℕ) (ms : List Mark) → Follows i ms → All (λ m. m.index ≤ top i ms) ms
follows_top i [] n k d w = absurd (omega (arith, w))
follows_top i (x ∷ ms) n zero d w = top_least x.index ms n.2
follows_top i (x ∷ ms) n (suc k) d w = follows_top x.index ms n.2 k d (omega (arith, w))

pub below_top : (i : ℕ) (ms : List Mark) → AreNear i ms → All (λ m. m.index ≤ top i ms) ms
below_top i ms n = follows_top i ms (follows i ms n)

pub top_bound : (i a : ℕ) (ms : List Mark) → i ≤ a → All (λ m. m.index ≤ a) ms → top i ms ≤ a
top_bound i a [] h all = h
top_bound i a (x ∷ ms) h all = top_bound x.index a ms (all zero x (omega arith)) (all_rest (λ m. m.index ≤ a) x ms all)

pub top_last : (i : ℕ) (ms : List Mark) (m : Mark) → slice_get ms (length ms - 1) ≡ Some m → m.index ≡ top i ms
top_last i [] m e = cc
top_last i (x ∷ []) m e = let is : x ≡ m = cc in sym (ap (λ (z : Mark). z.index) is)
top_last i (x ∷ y ∷ ms) m e =
    let same : suc (length (y ∷ ms) - 1) ≡ length (x ∷ y ∷ ms) - 1 = omega arith in
    top_last x.index (y ∷ ms) m (ap (slice_get (x ∷ y ∷ ms)) same ∙ e)

-- a mark among the others
pub near_at : (i : ℕ) (ms : List Mark) (k : ℕ) (m : Mark) → AreNear i ms → slice_get ms k ≡ Some m → m.index
    ≤ top i (take k ms) + 128
near_at i ms k m n e = (n k m e).1

pub top_at : (i : ℕ) (ms : List Mark) (k : ℕ) (m : Mark) → slice_get ms k ≡ Some m → top i (take (suc k) ms) ≡ m.index
top_at i [] k m e = cc
top_at i (x ∷ ms) zero m e = let is : x ≡ m = cc in ap (λ (z : Mark). z.index) is
top_at i (x ∷ ms) (suc k) m e = top_at x.index ms k m e

-- a seam measured from the other end
module _ (ns : List (Ptr × Piece)) (count len : ℕ) (v : IsMeasured ns count len) (s : Seam) where
  behind_all : (i : ℕ) → drop i (pieces_of ns) ≡ drop (1 + i) (pieces ns)
  behind_all i = drop-drop 1 i (pieces ns)

  pub turned_back : IsSeam ns s → IsBack ns (turned_seam count len s)
  turned_back h =
      let w = seam_inside ns s h in let counted = v.counted in let measured = v.measured in let upto = h.upto in
      let cut = length-flat-cut (pieces_of ns) s.index in
      let at : length ns - 1 - (count - s.index) ≡ s.index = omega arith in
      let on : length ns - (count - s.index) ≡ 1 + s.index = omega arith in
      let rest : length (flat (drop s.index (pieces_of ns))) ≡ len - s.pos = omega arith in
      record {
        within = omega arith;
        place = ap (slice_get (places ns)) at ∙ h.place;
        past = ap (λ n. length (flat (drop n (pieces ns)))) on ∙ sym (ap (λ l. length (flat l)) (behind_all s.index))
            ∙ rest;
      }

  pub turned_ahead : IsBack ns s → IsSeam ns (turned_seam count len s)
  turned_ahead h =
      let w = h.within in let counted = v.counted in let measured = v.measured in let past = h.past in
      let cut = length-flat-cut (pieces_of ns) (count - s.index) in
      let at : count - s.index ≡ length ns - 1 - s.index = omega arith in
      let on : 1 + (count - s.index) ≡ length ns - s.index = omega arith in
      let rest : length (flat (drop (count - s.index) (pieces_of ns))) ≡ s.pos =
      ap (λ l. length (flat l)) (behind_all (count - s.index)) ∙ ap (λ n. length (flat (drop n (pieces ns)))) on
      ∙ past in
      record { place = ap (slice_get (places ns)) at ∙ h.place; upto = omega arith }

  pub back_within : IsBack ns s → (s.index ≤ count) × (s.pos ≤ len)
  back_within h =
      let w = h.within in let counted = v.counted in let measured = v.measured in let past = h.past in
      let cut = length-flat-cut (pieces_of ns) (count - s.index) in
      let on : 1 + (count - s.index) ≡ length ns - s.index = omega arith in
      let rest : length (flat (drop (count - s.index) (pieces_of ns))) ≡ s.pos =
      ap (λ l. length (flat l)) (behind_all (count - s.index)) ∙ ap (λ n. length (flat (drop n (pieces ns)))) on
      ∙ past in
      (omega arith, omega arith)

  pub seam_measured : IsSeam ns s → (s.index ≤ count) × (s.pos ≤ len)
  seam_measured h = let w = seam_inside ns s h in let counted = v.counted in let measured = v.measured in
      let within = seam_within ns s h in (omega arith, omega arith)

-- the marks of a list
abbrev pub Ahead : List (Ptr × Piece) → Mark → Type 0
Ahead ns m = IsSeam ns (seam_of m)

abbrev pub Behind : List (Ptr × Piece) → Mark → Type 0
Behind ns m = IsBack ns (seam_of m)

-- the mark nearest to the window goes to the other side
module _ (ns : List (Ptr × Piece)) (count len : ℕ) (v : IsMeasured ns count len) (front back : List Mark)
    (m : Mark) where
  pub retreated : AreSeamMarks ns (front ++ m ∷ []) back → AreSeamMarks ns front (back ++ turned count len m ∷ [])
  retreated t =
      let p = t.parted in let close = t.close in let least = t.least in let meets = p.meets in let few = p.few in
      let counted = v.counted in
      let last = near-last 0 front m p.front_near in let low = last.0 in let high = last.1 in
      let at = top-push 0 front m in let now = top-push 0 back (turned count len m) in
      let long = length-push front m in let other = length-push back (turned count len m) in
      record {
        parted = record {
          front_near = near-front 0 front m p.front_near;
          back_near = near-push 0 back (turned count len m) p.back_near (omega arith) (omega arith);
          front_seams = all_front (Ahead ns) front m p.front_seams;
          back_seams = all_push (Behind ns) back (turned count len m) p.back_seams
              (turned_back ns count len v (seam_of m) (all_last (Ahead ns) front m p.front_seams));
          meets = omega arith;
          few = omega arith;
        };
        close = omega arith;
        least = omega arith;
      }

  pub advanced : AreSeamMarks ns front (back ++ m ∷ []) → AreSeamMarks ns (front ++ turned count len m ∷ []) back
  advanced t =
      let p = t.parted in let close = t.close in let least = t.least in let meets = p.meets in let few = p.few in
      let counted = v.counted in
      let last = near-last 0 back m p.back_near in let low = last.0 in let high = last.1 in
      let at = top-push 0 back m in let now = top-push 0 front (turned count len m) in
      let long = length-push back m in let other = length-push front (turned count len m) in
      record {
        parted = record {
          front_near = near-push 0 front (turned count len m) p.front_near (omega arith) (omega arith);
          back_near = near-front 0 back m p.back_near;
          front_seams = all_push (Ahead ns) front (turned count len m) p.front_seams
              (turned_ahead ns count len v (seam_of m) (all_last (Behind ns) back m p.back_seams));
          back_seams = all_front (Behind ns) back m p.back_seams;
          meets = omega arith;
          few = omega arith;
        };
        close = omega arith;
        least = omega arith;
      }

-- the last mark before the window goes
pub forgotten : (ns : List (Ptr × Piece)) (front back : List Mark) (m : Mark) → IsParted ns (front ++ m ∷ []) back
    → IsParted ns front back
forgotten ns front back m p =
    let meets = p.meets in let few = p.few in let last = near-last 0 front m p.front_near in let low = last.0 in
    let at = top-push 0 front m in let long = length-push front m in
    record {
      front_near = near-front 0 front m p.front_near;
      back_near = p.back_near;
      front_seams = all_front (Ahead ns) front m p.front_seams;
      back_seams = p.back_seams;
      meets = omega arith;
      few = omega arith;
    }

-- a mark is put in in the window
pub pushed : (ns : List (Ptr × Piece)) (front back : List Mark) (m : Mark) → IsParted ns front back → IsSeam ns (seam_of m)
    → top 0 front ≤ m.index → m.index ≤ top 0 front + 128 → m.index + top 0 back < length ns
    → length front + length back + 1 < 2 ^ 32 → IsParted ns (front ++ m ∷ []) back
pushed ns front back m p h low high meets few =
    let at = top-push 0 front m in let long = length-push front m in
    record {
      front_near = near-push 0 front m p.front_near low high;
      back_near = p.back_near;
      front_seams = all_push (Ahead ns) front m p.front_seams h;
      back_seams = p.back_seams;
      meets = omega arith;
      few = omega arith;
    }

-- what is the same behind an edit
module _ (xs ys : List (Ptr × Piece)) (s : Seam) (inner : s.index < length ys) where
  same_place : slice_get (places (xs ++ ys)) (length (xs ++ ys) - 1 - s.index)
      ≡ slice_get (places ys) (length ys - 1 - s.index)
  same_place =
      let all = length-append xs ys in let long = length-map xs (λ (m : Ptr × Piece). m.0) in
      let at : length (xs ++ ys) - 1 - s.index ≡ length (places xs) + (length ys - 1 - s.index) = omega arith in
      (λ k. slice_get (map-append (λ (m : Ptr × Piece). m.0) xs ys k) (at k))
      ∙ get-append (places xs) (places ys) (length ys - 1 - s.index)

  same_past : drop (length (xs ++ ys) - s.index) (pieces (xs ++ ys)) ≡ drop (length ys - s.index) (pieces ys)
  same_past =
      let all = length-append xs ys in let long = length-map xs (λ (m : Ptr × Piece). m.1) in
      let at : length (xs ++ ys) - s.index ≡ length (pieces xs) + (length ys - s.index) = omega arith in
      (λ k. drop (at k) (pieces-append xs ys k)) ∙ drop-append-add (pieces xs) (pieces ys) (length ys - s.index)

  pub back-alone : IsBack (xs ++ ys) s → IsBack ys s
  back-alone h = record {
    within = inner;
    place = sym same_place ∙ h.place;
    past = sym (ap (λ l. length (flat l)) same_past) ∙ h.past;
  }

  pub back-behind : IsBack ys s → IsBack (xs ++ ys) s
  back-behind h = record {
    within = let all = length-append xs ys in omega arith;
    place = same_place ∙ h.place;
    past = ap (λ l. length (flat l)) same_past ∙ h.past;
  }

-- marks before and behind what an edit changes
pub kept-parted : (ns ms : List (Ptr × Piece)) (front back : List Mark) (a b : ℕ) (mid : List (Ptr × Piece)) → a ≤ b
    → b < length ns → IsEdgeMoved ns front back a b → ms ≡ take (a + 1) ns ++ (mid ++ drop (b + 1) ns)
    → IsParted ms front back
kept-parted ns ms front back a b mid order w o made =
    let p = o.parted in let rest = drop (b + 1) ns in
    let size = length-drop (b + 1) ns in let head = length-take-le (a + 1) ns (omega arith) in
    let all = ap length made ∙ length-append (take (a + 1) ns) (mid ++ rest) in let more = length-append mid rest in
    let low = top_bound 0 a front (omega arith) o.before in
    let last : All (λ m. m.index ≤ length ns - b - 1) back = λ k d v. let h = o.behind k d v in omega arith in
    let high = top_bound 0 (length ns - b - 1) back (omega arith) last in
    let whole : ns ≡ take (b + 1) ns ++ rest = sym (take-append-drop (b + 1) ns) in
    let again : ms ≡ (take (a + 1) ns ++ mid) ++ rest = made ∙ sym (append_assoc (take (a + 1) ns) mid rest) in
    record {
      front_near = p.front_near;
      back_near = p.back_near;
      front_seams = λ k d v. subst (λ l. IsSeam l (seam_of (slice_index_or front k d))) (sym made)
          (seam-before ns a (mid ++ rest) (seam_of (slice_index_or front k d)) (o.before k d v) (omega arith)
          (p.front_seams k d v));
      back_seams = λ k d v. let h = o.behind k d v in
          let inner : (slice_index_or back k d).index < length rest = omega arith in
          subst (λ l. IsBack l (seam_of (slice_index_or back k d))) (sym again)
          (back-behind (take (a + 1) ns ++ mid) rest (seam_of (slice_index_or back k d)) inner
          (back-alone (take (b + 1) ns) rest (seam_of (slice_index_or back k d)) inner
          (subst (λ l. IsBack l (seam_of (slice_index_or back k d))) whole (p.back_seams k d v))));
      meets = omega arith;
      few = p.few;
    }

-- marks where each seam stays a seam
pub kept-marks : (ns ms : List (Ptr × Piece)) (front back : List Mark) (count len : ℕ) → IsMeasured ns count len
    → IsMeasured ms count len → ((s : Seam) → IsSeam ns s → IsSeam ms s) → AreSeamMarks ns front back
    → AreSeamMarks ms front back
kept-marks ns ms front back count len v w stays t =
    let p = t.parted in let a = v.counted in let b = w.counted in let close = t.close in let least = t.least in
    let meets = p.meets in
    record {
      parted = record {
        front_near = p.front_near;
        back_near = p.back_near;
        front_seams = λ k d h. stays _ (p.front_seams k d h);
        back_seams = λ k d h. again _ (p.back_seams k d h);
        meets = omega arith;
        few = p.few;
      };
      close = omega arith;
      least = omega arith;
    }
  where
    again : (s : Seam) → IsBack ns s → IsBack ms s
    again s h =
        let both = back_within ns count len v s h in let x = both.0 in let y = both.1 in
        let i : count - (count - s.index) ≡ s.index = omega arith in
        let p : len - (len - s.pos) ≡ s.pos = omega arith in
        subst (IsBack ms) (λ k. record { at = s.at; index = i k; pos = p k })
        (turned_back ms count len w (turned_seam count len s) (stays _ (turned_ahead ns count len v s h)))

pub measured : {ns : List (Ptr × Piece)} {trailer : Ptr} {count len : ℕ} → IsPieceList ns trailer count len
    → count < 2 ^ 32 → IsMeasured ns count len
measured v few = record { counted = v.counted; measured = v.measured; few = few; small = v.small }

-- a piece that is cut in two: the nodes before it and those behind it stay
pub divided-made : (ns ms os ws : List (Ptr × Piece)) (a i : ℕ) (x : Piece) → i ≡ a + 1 → i < length ns
    → ws ≡ with_piece ns i x → ms ≡ take (i + 1) ws ++ os ++ drop (i + 1) ws
    → (mid : List (Ptr × Piece)) × (ms ≡ take (a + 1) ns ++ (mid ++ drop (i + 1) ns))
divided-made ns ms os ws a i x e w is made =
    let r = take-with-node ns i x w in
    let head : take (i + 1) ws ≡ take (a + 1) ns ++ r.0 ∷ [] = ap (take (i + 1)) is
    ∙ ap (λ n. take n (with_piece ns i x)) (add-one i) ∙ r.1 ∙ ap (λ n. take n ns ++ r.0 ∷ []) e in
    let tail : drop (i + 1) ws ≡ drop (i + 1) ns = ap (drop (i + 1)) is ∙ drop-with-past ns i (i + 1) x
    (omega arith) in (
      (r.0 ∷ []) ++ os,
      made ∙ (λ k. head k ++ os ++ tail k)
          ∙ append_assoc (take (a + 1) ns ++ r.0 ∷ []) os (drop (i + 1) ns)
          ∙ append_assoc (take (a + 1) ns) (r.0 ∷ []) (os ++ drop (i + 1) ns),
    )

-- the start of a list
pub start_is : {ns : List (Ptr × Piece)} {count len : ℕ} (at : Spot) → IsPieceList ns at.ptr count len
    → IsWalkStart ns (record { at = at; index = 0; pos = 0 })
start_is at v = record { seam = record { place = v.trailer_first; upto = refl }; first = refl; none = refl }

-- no piece is empty, so seams have at least as many characters between them as pieces
pub few-between : (ns : List (Ptr × Piece)) (trailer : Ptr) (count len : ℕ) → IsPieceList ns trailer count len
    → (s t : Seam) → IsSeam ns s → IsSeam ns t → s.index ≤ t.index → t.index + s.pos ≤ s.index + t.pos
few-between ns trailer count len v s t h g order =
    let ps = pieces_of ns in let all = index_within ns t g in let long = length-take-le t.index ps all in
    let size = length-drop s.index (take t.index ps) in
    let few = count_fits (drop s.index (take t.index ps))
    (All-drop IsWhole s.index (take t.index ps) (All-take IsWhole t.index ps v.whole)) in
    let cut = length-flat-cut (take t.index ps) s.index in
    let same = ap (λ l. length (flat l)) (take-take s.index t.index ps order) in
    let a = h.upto in let b = g.upto in omega arith

-- how long walks are
module _ (ns : List (Ptr × Piece)) (pos : ℕ) (f : Found) (h : IsFound ns pos f) where
  module _ (trailer : Ptr) (count len : ℕ) (v : IsPieceList ns trailer count len) (s : Seam) (g : IsSeam ns s) where
    pub near-ahead : s.index + f.links ≡ f.after.index → s.pos ≤ pos → pos - s.pos < 128 → f.links ≤ 128
    near-ahead e low near = at f.links refl
      where
        at : (n : ℕ) → f.links ≡ n → f.links ≤ 128
        at zero z = omega (arith, z)
        at (suc n) z =
            let next = h.next in let from = h.from in
            let few = few-between ns trailer count len v s f.before g h.before (omega (arith, e, z)) in
            omega (arith, e, z, low, near)

    -- from the finger back, which is on a piece that begins after the position
    pub near-finger : (x : Piece) → slice_get (pieces ns) s.index ≡ Some x
        → f.after.index + f.links ≡ s.index + 1 → pos < s.pos - x.len → s.pos - x.len - pos < 128 → f.links ≤ 128
    near-finger x is e high near = at f.links refl
      where
        at : (n : ℕ) → f.links ≡ n → f.links ≤ 128
        at zero z = omega (arith, z)
        at (suc zero) z = omega (arith, z)
        at (suc (suc n)) z =
            let upto = h.upto in let some : 0 < s.pos = omega (arith, high) in
            let low = started ns s x g some is in
            let t = exists_at ns (s.index - 1) (let w = seam_inside ns s g in omega arith) in
            let before : Seam = record { at = record { ptr = t.0 }; index = s.index - 1; pos = s.pos - x.len } in
            let there = seam-back ns s x g some is before (λ _. t.1) refl refl in
            let few = few-between ns trailer count len v f.after before h.after there (omega (arith, e, z)) in
            omega (arith, e, z, high, near)

  module _ (sides : Seam × Seam) (g : IsAround ns pos sides) where
    pub short-ahead : sides.0.index + f.links ≡ f.after.index → f.links ≤ 128
    short-ahead e =
        let from = h.from in let upto = g.upto in let next = h.next in let near = g.near in
        let order = seam_order ns f.before sides.1 h.before g.high (omega arith) in omega (arith, e)

    pub short-back : f.after.index + f.links ≡ sides.1.index + 1 → f.links ≤ 128
    short-back e =
        let from = g.from in let upto = h.upto in let near = g.near in
        let order = seam_order ns sides.0 f.after g.low h.after (omega arith) in omega (arith, e)

-- each mark is for at most 128 pieces
follows_long : (i : ℕ) (ms : List Mark) → Follows i ms → top i ms ≤ i + 128 * length ms
follows_long i [] n = omega arith
follows_long i (x ∷ ms) n = let r = follows_long x.index ms n.2 in let a = n.1 in omega arith

pub near_long : (i : ℕ) (ms : List Mark) → AreNear i ms → top i ms ≤ i + 128 * length ms
near_long i ms n = follows_long i ms (follows i ms n)

-- the seam of the mark before that of index n, or the start
module _ (ms : List Mark) (start low : Seam) where
  pub nth_top : (n : ℕ) → start.index ≡ 0 → (n ≡ 0 → low ≡ start)
      → ((k : ℕ) → n ≡ k + 1 → slice_get ms k ≡ Some (mark_of_seam low)) → low.index ≡ top 0 (take n ms)
  nth_top zero z first inner = ap (λ (s : Seam). s.index) (first refl) ∙ z
  nth_top (suc k) z first inner = sym (top_at 0 ms k (mark_of_seam low) (inner k (sym (add-one k))))

  pub nth_all : (P : Seam → Type 0) (n : ℕ) → All (λ m. P (seam_of m)) ms → P start → (n ≡ 0 → low ≡ start)
      → ((k : ℕ) → n ≡ k + 1 → slice_get ms k ≡ Some (mark_of_seam low)) → P low
  nth_all P zero all h first inner = subst P (sym (first refl)) h
  nth_all P (suc k) all h first inner = all_at (λ m. P (seam_of m)) ms k (mark_of_seam low) all (inner k (sym (add-one k)))

  pub nth_low : (n pos : ℕ) → start.pos ≡ 0
      → ((k : ℕ) (m : Mark) → slice_get ms k ≡ Some m → k + 1 ≡ n → m.pos ≤ pos) → (n ≡ 0 → low ≡ start)
      → ((k : ℕ) → n ≡ k + 1 → slice_get ms k ≡ Some (mark_of_seam low)) → low.pos ≤ pos
  nth_low zero pos z below first inner = let e = ap (λ (s : Seam). s.pos) (first refl) in omega (arith, e, z)
  nth_low (suc k) pos z below first inner = below k (mark_of_seam low) (inner k (sym (add-one k))) (add-one k)

-- the end, measured from the end
pub none_back : (ns : List (Ptr × Piece)) (end : Seam) → IsMeasured ns end.index end.pos → IsSeam ns end
    → IsBack ns (record { at = end.at; index = 0; pos = 0 })
none_back ns end v h =
    let i : end.index - end.index ≡ 0 = omega arith in let p : end.pos - end.pos ≡ 0 = omega arith in
    subst (IsBack ns) (λ k. record { at = end.at; index = i k; pos = p k })
    (turned_back ns end.index end.pos v end h)

-- what a pop that gives none says
pub popped_below : (least : ℕ) (old new : List Mark) → new ≡ old → AreNear 0 old → (old ≡ []) ⊎ (top 0 old < least)
    → All (λ m. m.index < least) new
popped_below least old new e near (inl none) k d w = let long = ap length (e ∙ none) in absurd (omega (arith, w))
popped_below least old new e near (inr low) k d w = subst (All (λ m. m.index < least)) (sym e)
    (λ j c v. let b = below_top 0 old near j c v in omega (arith, low)) k d w

-- what the kept numbers tell
pub past_some : (ms : List Mark) → 0 < length ms → past_top ms ≡ top 0 ms + 1
past_some [] h = absurd (omega (arith, h))
past_some (m ∷ ms) h = refl

pub held : (ns : List (Ptr × Piece)) (front back : List Mark) (a b count : ℕ) → IsParted ns front back
    → length ns ≡ count + 1 → top 0 front ≤ a → b + past_top back ≤ count → IsEdgeMoved ns front back a b
held ns front back a b count p counted low high = record {
  parted = p;
  before = λ k d w. let h = below_top 0 front p.front_near k d w in omega (arith, low);
  behind = λ k d w.
      let h = below_top 0 back p.back_near k d w in let e = past_some back (omega (arith, w)) in
      omega (arith, high, counted);
}

-- a stack without marks
pub none_parted : (ns : List (Ptr × Piece)) → 0 < length ns → IsParted ns [] []
none_parted ns some = record {
  front_near = near 0 [] tt;
  back_near = near 0 [] tt;
  front_seams = λ k d w. absurd (omega (arith, w));
  back_seams = λ k d w. absurd (omega (arith, w));
  meets = omega (arith, some);
  few = omega arith;
}

-- a list without pieces has no marks, so these are parted in any other list too
pub empty_parted : (ns ms : List (Ptr × Piece)) (front back : List Mark) → AreSeamMarks ns front back → length ns ≡ 1
    → 0 < length ms → IsParted ms front back
empty_parted ns ms [] [] t one some = none_parted ms some
empty_parted ns ms [] (m ∷ back) t one some = let least = t.least in absurd (omega (arith, one))
empty_parted ns ms (m ∷ front) [] t one some = let least = t.least in absurd (omega (arith, one))
empty_parted ns ms (m ∷ front) (n ∷ back) t one some = let least = t.least in absurd (omega (arith, one))
