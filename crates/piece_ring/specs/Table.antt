-- Marks along a list of pieces, in two stacks with a window between them: those before it are measured from the
-- beginning, those behind it from the end. A table without stacks has no marks.
use Rattle.std.specs.Prelude.{ℕ, ◌+◌, ◌-◌, ◌*◌, ◌<◌, ◌≤◌, ◌≡◌, ◌^◌, ◌⊎◌, List, [], ◌∷◌, ◌++◌, length, take}
use Rattle.std.specs.Prelude.{drop, Some, None, slice_get, All, Option, MatchOption, IfSome, vec_capacity}
use Rattle.std.specs.declared.alloc.Global.{Global}
use Rattle.std.specs.declared.boxed.Box.{Box}
use denote.RawPtr.{Ptr}
use Rattle.piece_ring.specs.declared.piece.Piece.{Piece}
use Rattle.piece_ring.specs.declared.place.Seam.{Seam}
use Rattle.piece_ring.specs.declared.table.Kept.{Kept}
use Rattle.piece_ring.specs.declared.table.Mark.{Mark}
use Rattle.piece_ring.specs.declared.table.Stacks.{Stacks}
use Rattle.piece_ring.specs.declared.table.Table.{Table}
use Rattle.piece_ring.specs.Flat.{flat}
use Rattle.piece_ring.specs.Nodes.{places, pieces}
use Rattle.piece_ring.specs.Place.{text_along, IsSeam}

-- the seam of a mark, and the mark of a seam
abbrev pub seam_of : Mark → Seam
seam_of m = record { at = m.at; index = m.index; pos = m.pos }

abbrev pub mark_of_seam : Seam → Mark
mark_of_seam s = record { at = s.at; index = s.index; pos = s.pos }

-- the mark or the seam, measured from the other end
abbrev pub turned : ℕ → ℕ → Mark → Mark
turned count len m = record { at = m.at; index = count - m.index; pos = len - m.pos }

abbrev pub turned_seam : ℕ → ℕ → Seam → Seam
turned_seam count len s = record { at = s.at; index = count - s.index; pos = len - s.pos }

-- the index of a stack's last mark
abbrev pub top : ℕ → List Mark → ℕ
top i [] = i
top i (m ∷ ms) = top m.index ms

-- one more, or 0 where it has no mark
abbrev pub past_top : List Mark → ℕ
past_top [] = 0
past_top (m ∷ ms) = top m.index ms + 1

-- each mark is at most 128 pieces past the one before it
abbrev pub AreNear : ℕ → List Mark → Type 0
AreNear i ms = (k : ℕ) (m : Mark) → slice_get ms k ≡ Some m
    → (top i (take k ms) ≤ m.index) × (m.index ≤ top i (take k ms) + 128)

-- As many nodes follow the seam's as its index says, and they have as many characters as its position says.
pub record IsBack (ns : List (Ptr × Piece)) (s : Seam) : Type 0 where
  pub within : s.index < length ns
  pub place : slice_get (places ns) (length ns - 1 - s.index) ≡ Some s.at.ptr
  pub past : length (flat (drop (length ns - s.index) (pieces ns))) ≡ s.pos

-- there are so many pieces and characters
pub record IsMeasured (ns : List (Ptr × Piece)) (count len : ℕ) : Type 0 where
  pub counted : length ns ≡ count + 1
  pub measured : length (text_along ns) ≡ len
  pub few : count < 2 ^ 32
  pub small : len < 2 ^ 32

-- the seam before the first piece
pub record IsWalkStart (ns : List (Ptr × Piece)) (s : Seam) : Type 0 where
  pub seam : IsSeam ns s
  pub first : s.index ≡ 0
  pub none : s.pos ≡ 0

-- the marks before a window and those behind it
pub record IsParted (ns : List (Ptr × Piece)) (front back : List Mark) : Type 0 where
  pub front_near : AreNear 0 front
  pub back_near : AreNear 0 back
  pub front_seams : All (λ m. IsSeam ns (seam_of m)) front
  pub back_seams : All (λ m. IsBack ns (seam_of m)) back
  pub meets : top 0 front + top 0 back < length ns
  pub few : length front + length back < 2 ^ 32

-- where there are so many pieces, at most 128 are in the window, and there are 16 for each mark
pub record IsWindowFilled (front back : List Mark) (count : ℕ) : Type 0 where
  pub close : count ≤ top 0 front + top 0 back + 128
  pub least : 16 * (length front + length back) ≤ count

-- The marks of a list: at most 128 pieces stand between two, and at least 16 on the average.
pub record AreSeamMarks (ns : List (Ptr × Piece)) (front back : List Mark) : Type 0 where
  pub parted : IsParted ns front back
  pub close : length ns ≤ top 0 front + top 0 back + 129
  pub least : 16 * (length front + length back) < length ns

-- the marks where the nodes after that of index a up to that of index b have none
pub record IsEdgeMoved (ns : List (Ptr × Piece)) (front back : List Mark) (a b : ℕ) : Type 0 where
  pub parted : IsParted ns front back
  pub before : All (λ m. m.index ≤ a) front
  pub behind : All (λ m. m.index + b + 1 < length ns) back

-- what is kept of the stacks
pub record IsKept (front back : List Mark) (kept : Kept) : Type 0 where
  pub before : kept.before ≡ top 0 front
  pub behind : kept.behind ≡ top 0 back
  pub past : kept.past ≡ past_top back
  pub least : kept.least ≡ 16 * (length front + length back)

-- the stacks of a table
abbrev pub front_in : Option (Box Stacks Global) → List Mark
front_in None = []
front_in (Some b) = b.value.front.items

abbrev pub back_in : Option (Box Stacks Global) → List Mark
back_in None = []
back_in (Some b) = b.value.back.items

abbrev pub front_of : Table → List Mark
front_of t = front_in t.stacks

abbrev pub back_of : Table → List Mark
back_of t = back_in t.stacks

-- what it keeps of them is true
abbrev pub IsNoted : Table → Type 0
IsNoted t = IfSome t.stacks (λ b. IsKept b.value.front.items b.value.back.items b.value.kept)

-- the table of a list
pub record IsTable (ns : List (Ptr × Piece)) (t : Table) : Type 0 where
  pub marks : AreSeamMarks ns (front_of t) (back_of t)
  pub noted : IsNoted t

-- the table where the nodes after that of index a up to that of index b are about to change
pub record IsWindowOpened (ns : List (Ptr × Piece)) (t : Table) (a b : ℕ) : Type 0 where
  pub moved : IsEdgeMoved ns (front_of t) (back_of t) a b
  pub noted : IsNoted t

-- the table of a list in whose window marks may be missing
pub record IsTableParted (ns : List (Ptr × Piece)) (t : Table) : Type 0 where
  pub parted : IsParted ns (front_of t) (back_of t)
  pub noted : IsNoted t

-- each stack has the memory that it says
pub record IsReserved (s : Stacks) : Type 0 where
  pub front : s.room ≤ 16 * vec_capacity s.front
  pub back : s.room ≤ 16 * vec_capacity s.back

-- the memory is there for the marks of so many pieces
pub record HasRoom (s : Stacks) (count : ℕ) : Type 0 where
  pub within : count ≤ s.room
  pub reserved : IsReserved s

abbrev pub CanHold : Table → ℕ → Type 0
CanHold t count = MatchOption t.stacks (count ≤ 128) (λ b. HasRoom b.value count)

-- as much memory is there for marks as was
pub record IsSameRoom (old new : Stacks) : Type 0 where
  pub front : vec_capacity new.front ≡ vec_capacity old.front
  pub back : vec_capacity new.back ≡ vec_capacity old.back
  pub room : new.room ≡ old.room

abbrev pub KeepsRoom : Table → Table → Type 0
KeepsRoom old new = (count : ℕ) → CanHold old count → CanHold new count

-- the last mark went if its index was at least so much
abbrev pub IsPopped : ℕ → List Mark → Option Mark → List Mark → Type 0
IsPopped least old popped new = MatchOption popped
    ((new ≡ old) × ((old ≡ []) ⊎ (top 0 old < least)))
    (λ m. (old ≡ new ++ m ∷ []) × (least ≤ m.index))

-- seams on both sides of a position, at most 128 pieces apart
pub record IsAround (ns : List (Ptr × Piece)) (pos : ℕ) (sides : Seam × Seam) : Type 0 where
  pub low : IsSeam ns sides.0
  pub high : IsSeam ns sides.1
  pub from : sides.0.pos ≤ pos
  pub upto : pos < sides.1.pos
  pub near : sides.1.index ≤ sides.0.index + 128
