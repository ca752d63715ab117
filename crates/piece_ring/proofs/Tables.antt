-- Tables: marks that stand in a box, or none.
use Rattle.std.proofs.Common.{◌≡◌, ℕ, ◌+◌, ◌*◌, ◌<◌, ◌≤◌, List, length, Option, Some, None, MatchOption}
use Rattle.std.proofs.Common.{subst, arith}
use Rattle.std.specs.declared.alloc.Global.{Global}
use Rattle.std.specs.declared.boxed.Box.{Box}
use denote.RawPtr.{Ptr}
use Rattle.piece_ring.specs.declared.piece.Piece.{Piece}
use Rattle.piece_ring.specs.declared.table.Mark.{Mark}
use Rattle.piece_ring.specs.declared.table.Stacks.{Stacks}
use Rattle.piece_ring.specs.declared.table.Table.{Table}
use Rattle.piece_ring.specs.Table.{AreSeamMarks, CanHold, HasRoom, IsWindowOpened}
use Rattle.piece_ring.specs.Table.{IsTable, IsTableParted, front_of, back_of, past_top, top}
use Rattle.piece_ring.proofs.Marks.{empty_parted, held, near_long}

-- memory for more pieces is memory for fewer
room_in : (o : Option (Box Stacks Global)) (m n : ℕ) → MatchOption o (n ≤ 128) (λ b. HasRoom b.value n) → m ≤ n
    → MatchOption o (m ≤ 128) (λ b. HasRoom b.value m)
room_in None m n h w = omega (arith, h, w)
room_in (Some b) m n h w = let a = h.within in record { within = omega (arith, w); reserved = h.reserved }

pub room-less : (t : Table) (m n : ℕ) → CanHold t n → m ≤ n → CanHold t m
room-less t m n h w = room_in t.stacks m n h w

-- the table of a list without pieces, in another list
pub empty_table : (ns ms : List (Ptr × Piece)) (t : Table) → IsTable ns t → length ns ≡ 1 → 0 < length ms
    → IsTableParted ms t
empty_table ns ms t h one some = record {
  parted = empty_parted ns ms (front_of t) (back_of t) h.marks one some;
  noted = h.noted;
}

-- the window is where an edit goes
pub held_table : (ns : List (Ptr × Piece)) (t : Table) (a b count : ℕ) → IsTable ns t → length ns ≡ count + 1
    → top 0 (front_of t) ≤ a → b + past_top (back_of t) ≤ count → IsWindowOpened ns t a b
held_table ns t a b count h counted low high = record {
  moved = held ns (front_of t) (back_of t) a b count h.marks.parted counted low high;
  noted = h.noted;
}

-- what a table is by its stacks
pub at_stacks : (P : Table → Type 0) (t : Table) (o : Option (Box Stacks Global)) → t.stacks ≡ o → P t
    → P (record { stacks = o })
at_stacks P t o e h = subst (λ (x : Option (Box Stacks Global)). P (record { stacks = x })) e h

-- how many marks there are
pub marks_enough : (ns : List (Ptr × Piece)) (front back : List Mark) → AreSeamMarks ns front back
    → length ns ≤ 128 * (length front + length back) + 129
marks_enough ns front back t =
    let a = near_long 0 front t.parted.front_near in let b = near_long 0 back t.parted.back_near in
    let close = t.close in omega arith
